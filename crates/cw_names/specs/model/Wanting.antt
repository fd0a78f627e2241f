-- A key that is looked for by its kind and text is hashed and compared as the key itself.
use Rattle.std.specs.Prelude.{◌≡◌, ℕ, Bool, true, false, ◌&&◌, nat_eq, List, [], ◌∷◌, refl, IsTrue}
use Rattle.std.specs.Cmp.Lexicographic.{pointwise, bytes_decides}
use Rattle.cw_names.specs.declared.entry.EntryKind.{EntryKind}
use Rattle.cw_names.specs.declared.entry.EntryKind.TheVariants.{Ident, Roman, Typewriter, User}
use Rattle.cw_names.specs.declared.entry.Key.{Key}
use Rattle.cw_names.specs.declared.entry.NameQuery.{NameQuery}
use Rattle.cw_names.specs.Names.{same_kind}
use Rattle.cw_names.specs.model.Inside.{is_wanted}

kinds : (a b : EntryKind) (rest : Bool) → IsTrue (same_kind a b && rest) → a ≡ b
kinds Ident Ident _ _ = refl
kinds Roman Roman _ _ = refl
kinds Typewriter Typewriter _ _ = refl
kinds User User _ _ = refl
kinds _ _ rest h = absurd (let wrong : false ≡ true = h in cc)

texts : (a b : EntryKind) (rest : Bool) → IsTrue (same_kind a b && rest) → IsTrue rest
texts Ident Ident _ h = h
texts Roman Roman _ h = h
texts Typewriter Typewriter _ h = h
texts User User _ h = h
texts _ _ rest h = absurd (let wrong : false ≡ true = h in cc)

-- What is said of a kind and a text is said of both alike.
pub alike : {X : Type 0} (said : EntryKind → List ℕ → X) (wanted : NameQuery) (key : Key)
    → IsTrue (is_wanted wanted key)
    → said wanted.kind wanted.text.now ≡ said key.kind key.text.items
alike said wanted key h =
    let kind : wanted.kind ≡ key.kind = kinds wanted.kind key.kind (pointwise nat_eq wanted.text.now key.text.items)
    h in
    let text : wanted.text.now ≡ key.text.items = (bytes_decides wanted.text.now key.text.items).0
    (texts wanted.kind key.kind (pointwise nat_eq wanted.text.now key.text.items) h) in
    λ i. said (kind i) (text i)

-- Equal keys have equal texts, and their hashes are fed the same.
pub same_text : (kinds : Bool) (a b : List ℕ) → IsTrue (kinds && pointwise nat_eq a b) → a ∷ [] ≡ b ∷ []
same_text true a b h = let text : a ≡ b = (bytes_decides a b).0 h in λ i. text i ∷ []
same_text false a b h = absurd (let wrong : false ≡ true = h in cc)
