-- What is made of tokens: scraps of which leaf lines tell all, and the states of texts that have ended.
use Rattle.cw_log_laws.proofs.Terms.{ℕ, suc, ◌+◌, ◌≤◌, Option, List, [], ◌∷◌, length, arith, length-append, All}
use Rattle.cw_log_laws.proofs.Terms.{All-append, All-nil, All-push, All-weaker, Flags, Answer, Token, Begin, Finish}
use Rattle.cw_log_laws.proofs.Terms.{Note, Seen, TokKind, Nest, Leaf, Group, group, leaf, nests, first_nest, nest}
use Rattle.cw_log_laws.proofs.Terms.{Entry, AreDistinct, Scrap, normal, productions, State, LeafForm, names_with}
use Rattle.cw_log_laws.proofs.Terms.{token_form, greatest, IsLater}
use Rattle.cw_lex.specs.Nest.{End}
use Rattle.cw_translator.specs.Translating.{CommentItem, Piece, InnerText, Known, Made, as_item, made_before, beside}
use Rattle.cw_translator.specs.Translating.{comment_rest, comment_scrap, end_of, form_made, group_made, made, no_name}
use Rattle.cw_translator.specs.Translating.{nothing, one_item, one_scrap, plain_text, state_in, token_made, with_names}
use Rattle.cw_log_laws.proofs.{ReducedCats.normal-real, SpeltTokens.AreSpelt, SpeltTokens.IsSpelt}
use Rattle.cw_log_laws.proofs.CountedTokens.{nest-size, nest_size, tokens_in}
use Rattle.cw_log_laws.proofs.LaterNames.{HaveCats, cats-real, distinct-categories, have-categories, later-categories}
use Rattle.cw_log_laws.proofs.LaterNames.{later-on, later-same}
use Rattle.cw_log_laws.proofs.LeafScraps.{AreNamesBehind, MayBeForm, names-behind, token-logged}
use Rattle.cw_log_laws.proofs.WrittenScraps.{IsFineState, IsLogged, IsWritten, logged-later, state-later}
use Rattle.cw_rules.specs.declared.codes.Code.TheVariants as code
use Rattle.cw_rules.specs.declared.tokens.TokKind.TheVariants as kind

-- ## What is known grows

abbrev pub AreFine : List Entry → List State → Type 0
AreFine names states = All (IsFineState names) states

pub fine-later : (names later : List Entry) → IsLater names later → (states : List State) → AreFine names states
    → AreFine later states
fine-later names later l states h =
    All-weaker (IsFineState names) (IsFineState later) (λ s g. state-later names later l s g) states h

-- What is known after some tokens, of which there are so many.
pub record Grows (size : ℕ) (old new : Known) : Type 0 where
  pub later : IsLater old.names new.names
  pub distinct : AreDistinct old.names → AreDistinct new.names
  pub cats : HaveCats new.names
  pub ended : size ≤ greatest → AreFine old.names old.ended → AreFine new.names new.ended

pub grows-none : (k : Known) → HaveCats k.names → Grows 0 k k
grows-none k h = record { later = later-same k.names; distinct = λ d. d; cats = h; ended = λ few f. f }

pub grows-names : (k : Known) (names : List Entry) → HaveCats k.names → AreNamesBehind k.names names
    → Grows 0 k (with_names names k)
grows-names k names h b = record {
  later = b.0;
  distinct = b.1;
  cats = b.2 h;
  ended = λ few f. fine-later k.names names b.0 k.ended f;
}

pub grows-then : (m n : ℕ) (a b c : Known) → Grows m a b → Grows n b c → Grows (m + n) a c
grows-then m n a b c g h = grind (arith, later-on)

pub grows-wider : (m n : ℕ) (a b : Known) → m ≤ n → Grows m a b → Grows n a b
grows-wider m n a b less g = grind arith

-- few enough by themselves
pub grows-few : (m n : ℕ) (a b : Known) → m ≤ greatest → Grows m a b → Grows n a b
grows-few m n a b less g = grind arith

-- ## What is made

pub record IsWellMade (size : ℕ) (k : Known) (m : Made) : Type 0 where
  pub scraps : All (IsLogged m.known.names) m.scraps
  pub few : length m.scraps ≤ size
  pub grows : Grows size k m.known

pub well-wider : (m n : ℕ) (k : Known) (x : Made) → m ≤ n → IsWellMade m k x → IsWellMade n k x
well-wider m n k x less w = grind (arith, grows-wider)

pub well-nothing : (n : ℕ) (k new : Known) → Grows n k new → IsWellMade n k (nothing new)
well-nothing n k new g = record { scraps = All-nil (IsLogged new.names); few = omega arith; grows = g }

pub well-item : (n : ℕ) (k new : Known) (item : CommentItem) → Grows n k new → IsWellMade n k (one_item item new)
well-item n k new item g = record { scraps = All-nil (IsLogged new.names); few = omega arith; grows = g }

pub well-scrap : (n : ℕ) (k new : Known) (scrap : Scrap) → 1 ≤ n → IsLogged new.names scrap → Grows n k new
    → IsWellMade n k (one_scrap scrap new)
well-scrap n k new scrap some h g = grind arith

well-beside : (m n : ℕ) (k : Known) (a b : Made) → IsWellMade m k a → IsWellMade n a.known b
    → IsWellMade (m + n) k (beside a b)
well-beside m n k a b v w = record {
  scraps = All-append (IsLogged b.known.names) a.scraps b.scraps (All-weaker (IsLogged a.known.names) (IsLogged
      b.known.names) (λ s h. logged-later a.known.names b.known.names w.grows.later s h) a.scraps v.scraps) w.scraps;
  few = omega (arith, length-append a.scraps b.scraps, v.few, w.few);
  grows = grows-then m n k a.known b.known v.grows w.grows;
}

pub well-before : (m n : ℕ) (k : Known) (a : Made) (rest : Known → Made) → IsWellMade m k a
    → (HaveCats a.known.names → IsWellMade n a.known (rest a.known)) → IsWellMade (m + n) k (made_before a rest)
well-before m n k a rest v w = well-beside m n k a (rest a.known) v (w v.grows.cats)

-- ## The end of a text

pub ended-grows : (flags : Flags) (n : ℕ) (k : Known) (m : Made) → IsWellMade n k m → Grows n k (end_of flags m).known
ended-grows flags n k m w =
    let begun = state_in m.scraps m.known in
    let done = normal productions flags begun in
    let later = later-categories done.cats m.known.names in
    let after = (end_of flags m).known in
    record {
      later = later-on k.names m.known.names after.names w.grows.later later;
      distinct = λ d. distinct-categories done.cats m.known.names (w.grows.distinct d);
      cats = have-categories done.cats m.known.names
          (normal-real productions flags begun (cats-real m.known.names w.grows.cats)) w.grows.cats;
      ended = λ few f. All-push (IsFineState after.names) m.known.ended begun
          (fine-later m.known.names after.names later m.known.ended (w.grows.ended few f)) (state-later m.known.names
          after.names later begun (record { scraps = w.scraps; few = omega (arith, w.few, few) }));
    }

-- ## Tokens and comments

-- What section names make.
abbrev pub AreWellNamed : (ℕ → Known → Made) → Type 0
AreWellNamed name = (number : ℕ) (k : Known) → HaveCats k.names → IsWellMade 1 k (name number k)

well-form : (o : Option LeafForm) (k new : Known) → MayBeForm new.names o → Grows 1 k new
    → IsWellMade 1 k (form_made o new)
well-form o k new h g = grind (arith, well-nothing, well-scrap)

well-formed : (k : TokKind) (t : Seen) (known : Known) → HaveCats known.names → IsSpelt k t.text
    → IsWellMade 1 known (form_made (token_form k t.text t.hash_line t.directive t.span.start known.names)
    (with_names (names_with k t.text known.names) known))
well-formed k t known cats h = well-form (token_form k t.text t.hash_line t.directive t.span.start known.names) known
    (with_names
    (names_with k t.text known.names) known) (token-logged k t.text t.hash_line t.directive t.span.start known.names h
    cats)
    (grows-wider 0 1 known (with_names (names_with k t.text known.names) known) (omega arith)
    (grows-names known (names_with k t.text known.names) cats (names-behind k t.text known.names)))

well-piece : (known : Known) (item : CommentItem) → HaveCats known.names → IsWellMade 1 known (one_item item known)
well-piece known item cats = grind (arith, well-item, grows-wider, grows-none)

well-token : (name : ℕ → Known → Made) → AreWellNamed name → (k : TokKind) (t : Seen) (known : Known)
    → HaveCats known.names → IsSpelt k t.text → IsWellMade 1 known (token_made name k t known)
well-token name names kind.Text t known cats h = well-piece known (Piece t.span.start) cats
well-token name names (kind.Code code.SectionName) t known cats h = names t.span.start known cats
well-token name names (kind.Code code.FileName) t known cats h = names t.span.start known cats
well-token name names k t known cats h = well-formed k t known cats h

rest-written : (names : List Entry) (items : List CommentItem) → IsWritten names (comment_rest items)
rest-written names [] = (tt, (tt, tt))
rest-written names (Piece number ∷ items) = (tt, rest-written names items)
rest-written names (InnerText tree ∷ items) = rest-written names items

comment-logged : (names : List Entry) (number : ℕ) (items : List CommentItem)
    → IsLogged names (comment_scrap number items)
comment-logged names number items =
    record { written = (tt, (tt, rest-written names items)); real = λ e. absurd cc; bare = tt }

well-comment : (n : ℕ) (k : Known) (number : ℕ) (m : Made) → IsWellMade n k m
    → IsWellMade (suc n) k (one_scrap (comment_scrap number m.items) m.known)
well-comment n k number m w = well-scrap (suc n) k m.known (comment_scrap number m.items) (omega arith)
    (comment-logged m.known.names number m.items) (grows-wider n (suc n) k m.known (omega arith) w.grows)

well-inner : (flags : Flags) (n : ℕ) (k : Known) (m : Made) → IsWellMade n k m
    → IsWellMade (suc n) k (as_item (end_of flags m))
well-inner flags n k m w = well-item (suc n) k (end_of flags m).known (InnerText (end_of flags m).tree)
    (grows-wider n (suc n) k (end_of flags m).known (omega arith) (ended-grows flags n k m w))

well-group : (flags : Flags) (g : TokKind) (t : Seen) (n : ℕ) (k : Known) (m : Made) → IsWellMade n k m
    → IsWellMade (suc n) k (group_made flags g t m)
well-group flags kind.InnerText t n k m w = well-inner flags n k m w
well-group flags _ t n k m w = well-comment n k t.span.start m w

-- ## Nests

abbrev pub IsSpeltNest : Nest → Type 0
IsSpeltNest End = Unit {0}
IsSpeltNest (Leaf t rest) = IsSpelt t.kind t.text × IsSpeltNest rest
IsSpeltNest (Group t inner rest) = IsSpeltNest inner × IsSpeltNest rest

abbrev AreSpeltNests : List Nest → Type 0
AreSpeltNests [] = Unit {0}
AreSpeltNests (n ∷ ns) = IsSpeltNest n × AreSpeltNests ns

leaf-spelt : (t : Seen) (ns : List Nest) → IsSpelt t.kind t.text → AreSpeltNests ns → AreSpeltNests (leaf t ns)
leaf-spelt t ns h all = grind arith

group-spelt : (t : Seen) (ns : List Nest) → AreSpeltNests ns → AreSpeltNests (group t ns)
group-spelt t ns all = grind arith

nests-spelt : (xs : List Answer) → AreSpelt xs → AreSpeltNests (nests xs)
nests-spelt [] h = (tt, tt)
nests-spelt (Token t ∷ xs) h = leaf-spelt t (nests xs) h.0 (nests-spelt xs h.1)
nests-spelt (Begin t ∷ xs) h = group-spelt t (nests xs) (nests-spelt xs h)
nests-spelt (Finish t ∷ xs) h = (tt, nests-spelt xs h)
nests-spelt (Note k place ∷ xs) h = nests-spelt xs h

first-spelt : (ns : List Nest) → AreSpeltNests ns → IsSpeltNest (first_nest ns)
first-spelt ns all = grind arith

pub nest-spelt : (xs : List Answer) → AreSpelt xs → IsSpeltNest (nest xs)
nest-spelt xs h = first-spelt (nests xs) (nests-spelt xs h)

module _ (flags : Flags) (name : ℕ → Known → Made) (names : AreWellNamed name) where
  pub well-made : (n : Nest) (known : Known) → HaveCats known.names → IsSpeltNest n
      → IsWellMade (nest_size n) known (made flags name n known)
  well-made End known cats h = well-nothing 0 known known (grows-none known cats)
  well-made (Leaf t rest) known cats h =
      let first = token_made name t.kind t known in
      well-wider (1 + nest_size rest) (suc (nest_size rest)) known (made_before first (made flags name rest))
      (omega arith) (well-before 1 (nest_size rest) known first (made flags name rest)
      (well-token name names t.kind t known cats h.0) (λ cats. well-made rest first.known cats h.1))
  well-made (Group t inner rest) known cats h =
      let within = made flags name inner known in
      let first = group_made flags t.kind t within in
      well-wider (suc (nest_size inner) + nest_size rest) (suc (nest_size inner + nest_size rest)) known
      (made_before first (made flags name rest)) (omega arith) (well-before (suc (nest_size inner))
      (nest_size rest) known first (made flags name rest) (well-group flags t.kind t (nest_size inner) known within
      (well-made inner known cats h.0)) (λ cats. well-made rest first.known cats h.1))

no-names : AreWellNamed no_name
no-names number k cats = well-nothing 1 k k (grows-wider 0 1 k k (omega arith) (grows-none k cats))

-- a text without a head and without names
pub plain-grows : (flags : Flags) (answers : List Answer) (known : Known) → HaveCats known.names → AreSpelt answers
    → tokens_in answers ≤ greatest → Grows 0 known (plain_text flags answers known).known
plain-grows flags answers known cats h few =
    let n = nest answers in
    let all = made flags no_name n known in
    grows-few (nest_size n) 0 known (end_of flags all).known (omega (arith, nest-size answers, few))
    (ended-grows flags (nest_size n) known all (well-made flags no_name no-names n known cats (nest-spelt answers h)))
