-- Laws of references: one reference more.
use Rattle.std.proofs.Common.{◌≡◌, ℕ, zero, suc, ◌+◌, ◌<◌, ◌==◌, true, false, List, [], ◌∷◌, ◌++◌, cond, map}
use Rattle.std.proofs.Common.{refl, ap, ◌∙◌, arith}
use Rattle.std.specs.List.{filter}
use Rattle.std.proofs.lemmas.Bool.{eq-eqb}
use Rattle.std.proofs.Common.{add-zero}
use Rattle.std.proofs.lemmas.List.{map-append, append-nil}
use Rattle.std.proofs.lemmas.List.Elements.{filter-append}
use Rattle.cw_secnames.specs.declared.kinds.RefKind.{RefKind}
use Rattle.cw_secnames.specs.declared.kinds.RefKind.TheVariants.{Defined, Used, Cited}
use Rattle.cw_secnames.specs.Kept.{SecName}
use Rattle.cw_secnames.specs.laws.OnceLaws.{once-more}
use Rattle.cw_secnames.specs.References.{Reference, once, with_number, is_of, same_way, referring_sections, referred}
use Rattle.cw_secnames.specs.References.{with_section, with_reference}

-- the sections with one reference more
pub sections-more : (name : ℕ) (how : RefKind) (references : List Reference) (r : Reference) → is_of name how r ≡ true
    → referring_sections name how (references ++ r ∷ [])
    ≡ with_number r.section (referring_sections name how references)
sections-more name how references r h =
    ap (λ (rs : List Reference). once (map (λ (r : Reference). r.section) rs))
    (filter-append (is_of name how) references (r ∷ [])
    ∙ ap (λ b. filter (is_of name how) references ++ cond b (r ∷ []) []) h)
    ∙ ap once (map-append (λ (r : Reference). r.section) (filter (is_of name how) references) (r ∷ []))
    ∙ once-more r.section (map (λ (r : Reference). r.section) (filter (is_of name how) references))

pub sections-same : (name : ℕ) (how : RefKind) (references : List Reference) (r : Reference) → is_of name how r ≡ false
    → referring_sections name how (references ++ r ∷ []) ≡ referring_sections name how references
sections-same name how references r h =
    ap (λ (rs : List Reference). once (map (λ (r : Reference). r.section) rs))
    (filter-append (is_of name how) references (r ∷ [])
    ∙ ap (λ b. filter (is_of name how) references ++ cond b (r ∷ []) []) h
    ∙ append-nil (filter (is_of name how) references))

not-same : (a b : ℕ) → a < b → (a == b) ≡ false
not-same a b h = grind arith

not-same-behind : (a b : ℕ) → b < a → (a == b) ≡ false
not-same-behind a b h = grind arith

-- A reference to another name changes nothing of this one.
other-way : (name : ℕ) (how : RefKind) (r : Reference) → (r.name == name) ≡ false → is_of name how r ≡ false
other-way name how r h = rw h refl

referred-same : (references : List Reference) (r : Reference) (k : ℕ) (names : List SecName) → r.name < k
    → referred (references ++ r ∷ []) k names ≡ referred references k names
referred-same references r k [] h = refl
referred-same references r k (n ∷ names) h =
    let defined = sections-same k Defined references r (other-way k Defined r (not-same r.name k h)) in
    let used = sections-same k Used references r (other-way k Used r (not-same r.name k h)) in
    let cited = sections-same k Cited references r (other-way k Cited r (not-same r.name k h)) in
    let rest = referred-same references r (k + 1) names (omega arith) in
    (λ i. record n { defined = defined i; used = used i; cited = cited i } ∷ rest i)

-- Of the three lists of a name, a reference changes the one of its way.
at-name : (references : List Reference) (how other : RefKind) (section k : ℕ)
    → is_of k other (record { name = k; how = how; section = section }) ≡ same_way how other
at-name references how other section k = rw (eq-eqb k k refl) refl

head-more : (references : List Reference) (how : RefKind) (section k : ℕ) (n : SecName)
    → record n {
      defined = referring_sections k Defined (references ++ record { name = k; how = how; section = section } ∷ []);
      used = referring_sections k Used (references ++ record { name = k; how = how; section = section } ∷ []);
      cited = referring_sections k Cited (references ++ record { name = k; how = how; section = section } ∷ []);
    } ≡ with_section how section (record n {
      defined = referring_sections k Defined references;
      used = referring_sections k Used references;
      cited = referring_sections k Cited references;
    })
head-more references Defined section k n =
    let r : Reference = record { name = k; how = Defined; section = section } in
    let defined = sections-more k Defined references r (at-name references Defined Defined section k) in
    let used = sections-same k Used references r (at-name references Defined Used section k) in
    let cited = sections-same k Cited references r (at-name references Defined Cited section k) in
    (λ i. record n { defined = defined i; used = used i; cited = cited i })
head-more references Used section k n =
    let r : Reference = record { name = k; how = Used; section = section } in
    let defined = sections-same k Defined references r (at-name references Used Defined section k) in
    let used = sections-more k Used references r (at-name references Used Used section k) in
    let cited = sections-same k Cited references r (at-name references Used Cited section k) in
    (λ i. record n { defined = defined i; used = used i; cited = cited i })
head-more references Cited section k n =
    let r : Reference = record { name = k; how = Cited; section = section } in
    let defined = sections-same k Defined references r (at-name references Cited Defined section k) in
    let used = sections-same k Used references r (at-name references Cited Used section k) in
    let cited = sections-more k Cited references r (at-name references Cited Cited section k) in
    (λ i. record n { defined = defined i; used = used i; cited = cited i })

-- The names from a position on, with a reference to the name at another.
with_last : List Reference → RefKind → ℕ → ℕ → List SecName → ℕ → List SecName
with_last references how section k names name = referred
    (references ++ record { name = name; how = how; section = section } ∷ []) k names

-- The name at a position gets one reference more.
pub referred-more : (references : List Reference) (how : RefKind) (section : ℕ) (k i : ℕ) (names : List SecName)
    → referred (references ++ record { name = k + i; how = how; section = section } ∷ []) k names
    ≡ with_reference i how section (referred references k names)
unfolding with_last
referred-more references how section k i [] = refl
referred-more references how section k zero (n ∷ names) =
    let r : Reference = record { name = k; how = how; section = section } in
    ap (with_last references how section k (n ∷ names)) (add-zero k) ∙
    (let rest = referred-same references r (k + 1) names (omega arith) in
    let first = head-more references how section k n in
    λ i. first i ∷ rest i)
referred-more references how section k (suc i) (n ∷ names) =
    let r : Reference = record { name = (k + 1) + i; how = how; section = section } in
    let same : k + suc i ≡ (k + 1) + i = omega arith in
    let other : (((k + 1) + i) == k) ≡ false = not-same-behind ((k + 1) + i) k (omega arith) in
    ap (with_last references how section k (n ∷ names)) same ∙
    (let defined = sections-same k Defined references r (other-way k Defined r other) in
    let used = sections-same k Used references r (other-way k Used r other) in
    let cited = sections-same k Cited references r (other-way k Cited r other) in
    let rest = referred-more references how section (k + 1) i names in
    λ j. record n { defined = defined j; used = used j; cited = cited j } ∷ rest j)
