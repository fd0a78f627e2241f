-- A piece of a comment's text, as the scanner reads it.
use Rattle.std.proofs.Common.{◌≡◌, ℕ, ◌+◌, ◌-◌, ◌<◌, Bool, false, List, ◌∷◌, length, slice_index, drop, arith}
use Rattle.std.proofs.lemmas.Bool.Decides.{nat_tests}
use Rattle.cw_base.proofs.TestLaws.{or-true}
use Rattle.cw_rules.specs.declared.bodies.Body.TheVariants as bodies
use Rattle.cw_rules.specs.declared.{bodies.Inside.Inside, parts.Part.Part, parts.Opened.Opened}
use Rattle.cw_rules.specs.declared.tokens.Directive.TheVariants as directives
use Rattle.cw_rules.specs.declared.tokens.TokKind.TheVariants as kinds
use Rattle.cw_rules.specs.{Bodies.stops, Bodies.ended, Bodies.extent, Bodies.noted, Answers.ScanStep}
use Rattle.cw_rules.specs.{model.Cuttings.bytes_at}
use Rattle.cw_rules.specs.Tokens.{in_hash_line, is_deep, one, piece}
use Rattle.cw_rules.proofs.Inside.{ended-some}
use Rattle.cw_lex.proofs.Steps.{bytes-here}

-- what a piece gives, by where it ends
abbrev pub piece_found : Part → List Opened → Opened → ℕ → Inside → Inside → List ℕ → ScanStep
piece_found part rest comment place inside end bytes = one (in_hash_line part) (record {
  part = part;
  comments = record {
    start = comment.start;
    long = comment.long;
    braces = end.braces;
    inner = false;
  } ∷ rest;
}) place bytes (record {
  kind = kinds.Text;
  directive = directives.No;
  size = end.place - place;
  notes = noted inside
      bytes;
})

abbrev piece_by : Part → List Opened → Opened → ℕ → Inside → List ℕ → ScanStep
piece_by part rest comment place i bytes = one (in_hash_line part)
    (record { part = part; comments = record comment { braces = (ended i bytes).braces } ∷ rest }) place bytes
    (record { kind = kinds.Text; directive = directives.No; size = (extent i bytes).size; notes = noted i bytes })

pub piece-found : (text : List ℕ) (part : Part) (comments rest : List Opened) (comment : Opened) (place : ℕ)
    (deep : Bool) (end : Inside) → place < length text → comments ≡ comment ∷ rest → deep ≡ is_deep part comments
    → comment.inner ≡ false → end ≡ ended (record
    { body = bodies.Piece comment.long deep; braces = comment.braces; place = place; before = 0; along = false }) (drop
    place text) → piece part rest comment place (bytes_at text place) ≡ piece_found part rest comment place (record
    { body = bodies.Piece comment.long deep; braces = comment.braces; place = place; before = 0; along = false }) end
    (drop place text)
piece-found text part comments rest comment place deep end h top d inner e = grind (arith, nat_tests, bytes-here)

pub piece-some : (text : List ℕ) (inside end : Inside) → inside.place < length text
    → stops inside.body inside.before (slice_index text inside.place) (drop (inside.place + 1) text) ≡ false
    → end ≡ ended inside (drop inside.place text) → inside.place < end.place
piece-some text inside end h goes e = grind (arith, nat_tests, or-true, ended-some, bytes-here)
