-- Laws of comparing: no bytes, more bytes after some, the bytes with which a text begins, and bytes that differ.
use Rattle.std.specs.Prelude.{◌≡◌, ◌↔◌, ◌==◌, ◌≤◌, ◌<◌, ℕ, zero, suc, Bool, true, false, cond, not, nat_eq, List, []}
use Rattle.std.specs.Prelude.{◌∷◌, ◌++◌, Option, Some, None, IsTrue, length, take, drop}
use Rattle.std.specs.Bool.{OnFalse, OnTrue}
use Rattle.std.specs.Cmp.Lexicographic.{bytes_decides, pointwise}
use Rattle.std.proofs.Common.{refl, sym, ap, ◌∙◌, subst, append_assoc, arith, length-append, length-drop, eq-eqb, inl}
use Rattle.std.proofs.Common.{inr}
use Rattle.std.proofs.lemmas.Bool.Decides.{eqb_tells}
use Rattle.std.proofs.lemmas.List.{drop_all, length-take, length-take-le, take-append-drop, take-append-le, take_all}
use Rattle.cw_desk.specs.Meaning.{Files}
use Rattle.cw_desk.specs.State.{DeskState, Narrows}
use Rattle.cw_lines.specs.Compared.{OldFile, Compares, Shortens, behind_beginning, left, left_behind, left_by}

-- the text that is there, or another
abbrev option_or : List ℕ → Option (List ℕ) → List ℕ
option_or other None = other
option_or other (Some text) = text

pub left_behind-none : (rest : Option (List ℕ)) → left_behind [] rest ≡ rest
left_behind-none None = refl
left_behind-none (Some text) = refl

stripped-append : (same : Bool) (xs ys rest : List ℕ) → behind_beginning (xs ++ ys) rest
    ≡ left_behind ys (behind_beginning xs rest)
    → cond same (behind_beginning (xs ++ ys) rest) None ≡ left_behind ys (cond same (behind_beginning xs rest) None)
stripped-append true xs ys rest is = is
stripped-append false xs ys rest is = refl

behind-append : (xs ys text : List ℕ) → behind_beginning (xs ++ ys) text ≡ left_behind ys (behind_beginning xs text)
behind-append [] ys text = refl
behind-append (x ∷ xs) ys [] = refl
behind-append (x ∷ xs) ys (first ∷ rest) = stripped-append (x == first) xs ys rest (behind-append xs ys rest)

pub left_behind-append : (xs ys : List ℕ) (rest : Option (List ℕ)) → left_behind (xs ++ ys) rest
    ≡ left_behind ys (left_behind xs rest)
left_behind-append xs ys None = refl
left_behind-append xs ys (Some text) = behind-append xs ys text

-- behind the bytes with which it begins
pub behind-begun : (xs rest : List ℕ) → behind_beginning xs (xs ++ rest) ≡ Some rest
behind-begun [] rest = refl
behind-begun (x ∷ xs) rest = ap (λ (same : Bool). cond same (behind_beginning xs (xs ++ rest)) None) (eq-eqb x x refl)
    ∙ behind-begun xs rest

-- a text that doesn't begin with them
stripped-other : (x y : ℕ) (xs ys : List ℕ) → (x ≡ y → behind_beginning xs ys ≡ None)
    → cond (x == y) (behind_beginning xs ys) None ≡ None
stripped-other x y xs ys same =
    elim (eqb_tells x y) [
      | inl is ↦ ap (λ (b : Bool). cond b (behind_beginning xs ys) None) is.0 ∙ same is.1
      | inr is ↦ ap (λ (b : Bool). cond b (behind_beginning xs ys) None) is.0
    ]

pub behind-other : (xs ys : List ℕ) (count : ℕ) → count ≤ length xs → count ≤ length ys
    → (take count ys ≡ take count xs → ⊥) → behind_beginning xs ys ≡ None
behind-other xs ys zero within inside other = absurd (other refl)
behind-other [] ys (suc count) within inside other = absurd (omega arith)
behind-other (x ∷ xs) [] (suc count) within inside other = refl
behind-other (x ∷ xs) (y ∷ ys) (suc count) within inside other =
    stripped-other x y xs ys (λ same. behind-other xs ys count (omega arith) (omega arith)
    (λ rest. other (λ i. sym same i ∷ rest i)))

-- a text that has ended begins with no byte
pub behind-ended : (xs : List ℕ) → 0 < length xs → behind_beginning xs [] ≡ None
behind-ended [] some = absurd (omega arith)
behind-ended (x ∷ xs) some = refl

-- where nothing is behind the bytes, the text is just these
pub same-text : (xs text : List ℕ) → behind_beginning xs text ≡ Some [] → text ≡ xs
same-text [] text is = ap (option_or text) is
same-text (x ∷ xs) [] is = absurd cc
same-text (x ∷ xs) (first ∷ rest) is =
    elim (eqb_tells x first) [
      | inl same ↦ λ i. sym same.1 i ∷ same-text xs rest (sym
          (ap (λ (b : Bool). cond b (behind_beginning xs rest) None) same.0)
          ∙ is) i
      | inr other ↦ absurd (let none = sym (ap (λ (b : Bool). cond b (behind_beginning xs rest) None) other.0) ∙ is in
          cc)
    ]

-- ## What is ahead

-- as many bytes as there are ahead are compared
pub left-checked : (same agrees : Bool) (bytes ahead rest : List ℕ) (count : ℕ) → agrees ≡ true → count ≤ length bytes
    → count ≤ length ahead
    → same ≡ pointwise nat_eq (take count ahead) (take count bytes)
    → left_by same (drop count ahead ++ rest) ≡ left_behind (take count bytes) (left_by agrees (ahead ++ rest))
left-checked true agrees bytes ahead rest count agreed within inside test =
    let is : take count ahead ≡ take count bytes = (bytes_decides (take count ahead) (take count bytes)).0 (sym test) in
    sym (ap (λ (b : Bool). left_behind (take count bytes) (left_by b (ahead ++ rest))) agreed
    ∙ ap (λ (text : List ℕ). behind_beginning (take count bytes) (text ++ rest)) (sym (take-append-drop count ahead))
    ∙ ap (behind_beginning (take count bytes)) (append_assoc (take count ahead) (drop count ahead) rest)
    ∙ ap (λ (begun : List ℕ). behind_beginning (take count bytes) (begun ++ (drop count ahead ++ rest))) is
    ∙ behind-begun (take count bytes) (drop count ahead ++ rest))
left-checked false agrees bytes ahead rest count agreed within inside test =
    let differ : take count ahead ≡ take count bytes
    → ⊥ = λ is. absurd (let told = (bytes_decides (take count ahead) (take count bytes)).1 is in cc) in
    let size : length (take count bytes) ≡ count = length-take-le count bytes within in
    let first : take count (ahead ++ rest) ≡ take count ahead = take-append-le count ahead rest inside in
    let whole : take count (take count bytes) ≡ take count bytes =
    take_all count (take count bytes) (omega (arith, size)) in
    sym (ap (λ (b : Bool). left_behind (take count bytes) (left_by b (ahead ++ rest))) agreed
    ∙ behind-other (take count bytes) (ahead ++ rest) count (omega (arith, size))
    (omega (arith, inside, length-append ahead rest))
    (λ is. differ (sym first ∙ is ∙ whole)))

-- a file that has ended agrees with no byte more
pub left-ended : (bytes : List ℕ) (agrees : Bool) (ahead rest : List ℕ) → 0 < length bytes → ahead ≡ [] → rest ≡ []
    → left_behind bytes (left_by agrees (ahead ++ rest)) ≡ None
left-ended bytes true ahead rest some none ended = ap (λ (text : List ℕ). behind_beginning bytes (text ++ rest)) none
    ∙ ap (behind_beginning bytes) ended ∙ behind-ended bytes some
left-ended bytes false ahead rest some none ended = refl

-- what is ahead, between where it begins and where it ends
pub ahead-none : (buffer : List ℕ) (start end : ℕ) → end ≤ start → drop start (take end buffer) ≡ []
ahead-none buffer start end spent = drop_all start (take end buffer) (omega (arith, length-take end buffer, spent))

pub ahead-some : (buffer : List ℕ) (start end : ℕ) → start < end → end ≤ length buffer
    → 0 < length (drop start (take end buffer))
ahead-some buffer start end some within = omega (
  arith,
  length-drop start (take end buffer),
  length-take-le end buffer within,
  some,
)

-- whether nothing is left, by what was read
pub left-lost : (agrees : Bool) (text : List ℕ) → agrees ≡ false → left_by agrees text ≡ Some [] → ⊥
left-lost true text lost is = absurd cc
left-lost false text lost is = absurd cc

pub left-more : (agrees : Bool) (ahead rest : List ℕ) → 0 < length ahead → left_by agrees (ahead ++ rest) ≡ Some [] → ⊥
left-more agrees [] rest some is = absurd (omega arith)
left-more true (byte ∷ ahead) rest some is = absurd (let none : byte ∷ ahead ++ rest ≡ [] = ap (option_or []) is in cc)
left-more false (byte ∷ ahead) rest some is = absurd cc

pub left-read : (some agrees : Bool) (ahead rest more unread : List ℕ) → agrees ≡ true → ahead ≡ []
    → rest ≡ more ++ unread
    → OnTrue some (0 < length more) → OnFalse some (rest ≡ [])
    → IsTrue (not some) ↔ (left_by agrees (ahead ++ rest) ≡ Some [])
left-read true agrees ahead rest more unread agreed none read longer ended =
    let is : left_by agrees (ahead ++ rest) ≡ left_by agrees (more ++ unread) =
    ap (λ (text : List ℕ). left_by agrees (text ++ rest)) none ∙ ap (left_by agrees) read in
    ((λ no. absurd cc), (λ whole. absurd (left-more agrees more unread longer (sym is ∙ whole))))
left-read false agrees ahead rest more unread agreed none read longer ended = (
  (λ yes. ap (λ (b : Bool). left_by b (ahead ++ rest)) agreed ∙ ap (λ (text : List ℕ). Some (text ++ rest)) none
      ∙ ap (λ (text : List ℕ). Some text) ended),
  (λ whole. refl),
)

-- ## Comparing

pub compares-none : (old : Option OldFile) (told : DeskState) → Compares [] old old told told
compares-none old told = record { rest = λ files is. sym (left_behind-none (left files told old)) }

pub compares-then : {xs ys : List ℕ} {first second third : Option OldFile} {a b c : DeskState} → Narrows b c
    → Compares xs first second a b → Compares ys second third b c → Compares (xs ++ ys) first third a c
compares-then {xs = xs} {ys = ys} {first = first} {a = a} narrows begun ended = record {
  rest = λ files is. ended.rest files is ∙ ap (left_behind ys) (begun.rest files (narrows files is))
      ∙ sym (left_behind-append xs ys (left files a first));
}

pub compares-bytes : {xs ys : List ℕ} {old new : Option OldFile} {a b : DeskState} → xs ≡ ys → Compares xs old new a b
    → Compares ys old new a b
compares-bytes {old = old} {new = new} {a = a} {b = b} same compares =
    subst (λ (bytes : List ℕ). Compares bytes old new a b) same compares

-- the same file afterwards
pub compares-as : {xs ys : List ℕ} {old new other : Option OldFile} {a b : DeskState} → xs ≡ ys → new ≡ other
    → Compares xs old new a b → Compares ys old other a b
compares-as {xs = xs} {old = old} {other = other} {a = a} {b = b} same is compares =
    subst (λ (bytes : List ℕ). Compares bytes old other a b) same
    (subst (λ (file : Option OldFile). Compares xs old file a b) is compares)

-- bytes were compared, then more was read, and more bytes were compared
pub compares-more : {first : List ℕ} (more : List ℕ) {old mid : OldFile} (read : OldFile) {new : OldFile} {a b c :
    DeskState}
    → Narrows b c
    → Compares first (Some old) (Some mid) a b
    → ((files : Files) → c.agrees files → left_behind more (left files c (Some read))
    ≡ left_behind more (left files b (Some mid)))
    → new.id ≡ read.id
    → ((rest : List ℕ) → left_by new.agrees (new.ahead ++ rest)
    ≡ left_behind more (left_by read.agrees (read.ahead ++ rest)))
    → Compares (first ++ more) (Some old) (Some new) a c
compares-more {first = first} more {old = old} read {new = new} {a = a} {c = c} narrows begun reads file
    checks = record {
      rest = λ files is.
          checks (c.rest files new.id)
          ∙ ap (λ (id : ℕ). left_behind more (left_by read.agrees (read.ahead ++ c.rest files id))) file
          ∙ reads files is
          ∙ ap (left_behind more) (begun.rest files (narrows files is))
          ∙ sym (left_behind-append first more (left files a (Some old)));
    }

pub shortens-none : (file : Option ℕ) {a b : DeskState} → b.rest ≡ a.rest → Shortens file a b
shortens-none file same = record { unread = λ files is id named. ([], sym (λ i. same i files id)) }

pub shortens-then : {file : Option ℕ} {a b c : DeskState} → Narrows b c → Shortens file a b → Shortens file b c
    → Shortens file a c
shortens-then {c = c} narrows begun ended = record {
  unread = λ files is id named.
      let first = begun.unread files (narrows files is) id named in
      let second = ended.unread files is id named in (
        first.0 ++ second.0,
        first.1 ∙ ap (λ (rest : List ℕ). first.0 ++ rest) second.1
            ∙ sym (append_assoc first.0 second.0 (c.rest files id)),
      );
}
