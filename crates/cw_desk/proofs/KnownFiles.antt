-- Files that are made of answers, with of each file just what was read of it: they agree, or no files do.
use Rattle.std.proofs.Common.{◌≡◌, ℕ, ◌<◌, ◌≤◌, ◌⊎◌, ◌==◌, List, [], ◌∷◌, ◌++◌, Some, None, Option, Bool, true}
use Rattle.std.proofs.Common.{false, cond, if◌then◌else◌, drop, take, refl, sym, ap, subst, ◌∙◌, arith, append_assoc}
use Rattle.std.proofs.Common.{length}
use Rattle.std.proofs.Common.{inl, inr, nat_le, leb-true, leb-false, bytes_eq}
use Rattle.std.proofs.lemmas.List.{append_cancel_left, append-nil, drop_at, take-append-drop, take-append-le, take_at}
use Rattle.std.proofs.lemmas.List.{drop-append-le, drop_all}
use Rattle.std.specs.Cmp.Lexicographic.{slice_cmp, nat_list_cmp_total, bytes_decides}
use Rattle.std.specs.FinMap.{get, empty, insert, get-empty, get-insert, get_tied}
use Rattle.std.specs.Ordering.{eq_by_cmp, is_eq, nat_cmp}
use Rattle.std.specs.declared.cmp.Ordering.{Ordering}
use Rattle.std.specs.declared.cmp.Ordering.TheVariants.{Less, Equal, Greater}
use Rattle.std.specs.Cmp.{eq_by_cmp_equiv}
use Rattle.cw_desk.specs.Answer.{Agree, Answer, NoneAgree, Opened, Missing, Read, End, rest_of, text_of}
use Rattle.cw_desk.specs.Meaning.{Files}
use Rattle.cw_desk.specs.Reader.{bytes_come, opened_name}
use Rattle.cw_desk.proofs.ReaderLaws.{has-all}

-- ## Texts that begin with others

-- a text begins with this one
pub record Begins (part text : List ℕ) : Type 0 where
  pub more : List ℕ
  pub is : text ≡ part ++ more

begins-itself : (text : List ℕ) → Begins text text
begins-itself text = record { more = []; is = sym (append-nil text) }

begins-none : (text : List ℕ) → Begins [] text
begins-none text = record { more = text; is = refl }

-- where more of it is dropped than there is of its beginning, nothing is left of that
drop-begins : (n : ℕ) {part text : List ℕ} → Begins part text → Begins (drop n part) (drop n text)
drop-begins n {part = part} {text = text} begins = dropped (nat_le n (length part)) refl
  where
    dropped : (within : Bool) → nat_le n (length part) ≡ within → Begins (drop n part) (drop n text)
    dropped true within = record {
      more = begins.more;
      is = ap (drop n) begins.is ∙ drop-append-le n part begins.more (leb-true n (length part) within);
    }
    dropped false within =
        let short : length part < n = leb-false n (length part) within in
        subst (λ (rest : List ℕ). Begins rest (drop n text)) (sym (drop_all n part (omega (arith, short))))
        (begins-none (drop n text))

chosen-begins : (same : Bool) {a b c d : List ℕ} → Begins a b → Begins c d
    → Begins (if same then a else c) (if same then b else d)
chosen-begins true first second = first
chosen-begins false first second = second

nothing-begins : {part text : List ℕ} → Begins part text → text ≡ [] → part ≡ []
nothing-begins {part = []} begins none = refl
nothing-begins {part = byte ∷ bytes} begins none = absurd (let empty : [] ≡ byte ∷ (bytes ++ begins.more) =
    sym none ∙ begins.is in cc)

-- a text that begins with these bytes is these and what is behind them
begins-with : (bytes more : List ℕ) {text : List ℕ} → text ≡ bytes ++ more
    → text ≡ bytes ++ drop (length bytes) text
begins-with bytes more is = is ∙ ap (λ (rest : List ℕ). bytes ++ rest)
    (sym (ap (drop (length bytes)) is ∙ drop_at bytes more (length bytes) refl))

-- Of two beginnings of a text the longer one begins with the shorter one.
longer-begins : (bytes : List ℕ) {part text : List ℕ} → Begins part text → text ≡ bytes ++ drop (length bytes) text
    → length bytes ≤ length part → part ≡ bytes ++ drop (length bytes) part
longer-begins bytes {part = part} {text = text} begins is long =
    sym (take-append-drop (length bytes) part)
    ∙ ap (λ (first : List ℕ). first ++ drop (length bytes) part)
    (sym (take-append-le (length bytes) part begins.more long)
    ∙ ap (take (length bytes)) (sym begins.is ∙ is)
    ∙ take_at bytes (drop (length bytes) text) (length bytes) refl)

-- ## Files with less in them

-- a file that is there is there too, and begins with this one
abbrev Below : Option (List ℕ) → Option (List ℕ) → Type 0
Below None other = Unit {0}
Below (Some text) None = ⊥
Below (Some text) (Some other) = Begins text other

abbrev Under : Files → Files → Type 0
Under low high = (name : List ℕ) → Below (get low name) (get high name)

text-below : (a b : Option (List ℕ)) → Below a b → Begins (text_of a) (text_of b)
text-below None b below = begins-none (text_of b)
text-below (Some text) None below = absurd below
text-below (Some text) (Some other) below = below

below-itself : (a : Option (List ℕ)) → Below a a
below-itself None = tt
below-itself (Some text) = begins-itself text

below-text : (a : Option (List ℕ)) → Below a (Some (text_of a))
below-text None = tt
below-text (Some text) = begins-itself text

still-there : (a b : Option (List ℕ)) → Below a b → a ≡ Some (text_of a) → b ≡ Some (text_of b)
still-there None b below is = absurd cc
still-there (Some text) None below is = absurd below
still-there (Some text) (Some other) below is = refl

still-missing : (a b : Option (List ℕ)) → Below a b → b ≡ None → a ≡ None
still-missing None b below is = refl
still-missing (Some text) None below is = absurd below
still-missing (Some text) (Some other) below is = absurd cc

there : (a : Option (List ℕ)) {text : List ℕ} → a ≡ Some text → a ≡ Some (text_of a)
there a is = is ∙ ap (λ (o : Option (List ℕ)). Some (text_of o)) (sym is)

rest-begins : (answers : List Answer) (low high : Files) → Under low high → (i : ℕ)
    → Begins (rest_of answers low i) (rest_of answers high i)
rest-begins [] low high under i = begins-none []
rest-begins (Opened j name ∷ older) low high under i = chosen-begins (i == j)
    (text-below (get low name) (get high name) (under name)) (rest-begins older low high under i)
rest-begins (Missing name ∷ older) low high under i = rest-begins older low high under i
rest-begins (Read j bytes ∷ older) low high under i = chosen-begins (i == j)
    (drop-begins (length bytes) (rest-begins older low high under i)) (rest-begins older low high under i)
rest-begins (End j ∷ older) low high under i = rest-begins older low high under i

-- Files between two that agree agree.
agree-between : (answers : List Answer) (low mid high : Files) → Under low mid → Under mid high → Agree answers low
    → Agree answers high → Agree answers mid
agree-between [] low mid high lower upper least most = tt
agree-between (Opened j name ∷ older) low mid high lower upper least most = (
  agree-between older low mid high lower upper least.0 most.0,
  still-there (get low name) (get mid name) (lower name) least.1,
)
agree-between (Missing name ∷ older) low mid high lower upper least most = (
  agree-between older low mid high lower upper least.0 most.0,
  still-missing (get mid name) (get high name) (upper name) most.1,
)
agree-between (Read j bytes ∷ older) low mid high lower upper least most = (
  agree-between older low mid high lower upper least.0 most.0,
  let begins = rest-begins older low mid lower j in
      let rest = drop (length bytes) (rest_of older low j) in
      begins-with bytes (rest ++ begins.more) (begins.is ∙ ap (λ (all : List ℕ). all ++ begins.more) least.1
      ∙ append_assoc bytes rest begins.more),
)
agree-between (End j ∷ older) low mid high lower upper least most = (
  agree-between older low mid high lower upper least.0 most.0,
  nothing-begins (rest-begins older mid high upper j) most.1,
)

-- ## A file more, or more of a file

get-there : (files : Files) (name text : List ℕ) → get (insert files name text) name ≡ Some text
get-there files name text = get-insert nat_list_cmp_total files name text name
    ∙ ap (λ (same : Bool). cond same (Some text) (get files name)) ((eq_by_cmp_equiv nat_list_cmp_total).refl name)

equal : (o : Ordering) → is_eq o ≡ true → o ≡ Equal
equal Less is = absurd cc
equal Equal is = refl
equal Greater is = absurd cc

same-file : (files : Files) (q name : List ℕ) → eq_by_cmp (slice_cmp nat_cmp) q name ≡ true
    → get files name ≡ get files q
same-file files q name same = get_tied nat_list_cmp_total files q name (equal (slice_cmp nat_cmp q name) same)

-- files with this text of a name, between these and those
pub record Inserted (low high : Files) (name text : List ℕ) : Type 0 where
  pub lower : Under low (insert low name text)
  pub upper : Under (insert low name text) high

inserted : (low high : Files) (name text : List ℕ) → Under low high → Below (get low name) (Some text)
    → Below (Some text) (get high name) → Inserted low high name text
inserted low high name text under lower upper = record {
  lower = λ q. subst (λ (o : Option (List ℕ)). Below (get low q) o)
      (sym (get-insert nat_list_cmp_total low name text q)) (above q (eq_by_cmp (slice_cmp nat_cmp) q name) refl);
  upper = λ q. subst (λ (o : Option (List ℕ)). Below o (get high q))
      (sym (get-insert nat_list_cmp_total low name text q)) (beneath q (eq_by_cmp (slice_cmp nat_cmp) q name) refl);
}
  where
    above : (q : List ℕ) (same : Bool) → eq_by_cmp (slice_cmp nat_cmp) q name ≡ same
        → Below (get low q) (cond same (Some text) (get low q))
    above q true same = subst (λ (o : Option (List ℕ)). Below o (Some text)) (same-file low q name same) lower
    above q false same = below-itself (get low q)

    beneath : (q : List ℕ) (same : Bool) → eq_by_cmp (slice_cmp nat_cmp) q name ≡ same
        → Below (cond same (Some text) (get low q)) (get high q)
    beneath q true same = subst (λ (o : Option (List ℕ)). Below (Some text) o) (same-file high q name same) upper
    beneath q false same = under q

-- ## The files that are known

-- with this text of the file, if there isn't enough of it
abbrev with_text : Option (List ℕ) → Bool → List ℕ → Files → Files
with_text None enough text files = files
with_text (Some name) true text files = files
with_text (Some name) false text files = insert files name text

-- Each file that was opened, with the longest text that came of it.
abbrev known : List Answer → Files
known [] = empty
known (Opened j name ∷ older) = insert (known older) name (text_of (get (known older) name))
known (Missing name ∷ older) = known older
known (Read j bytes ∷ older) =
    with_text (opened_name j older) (nat_le (length bytes) (length (rest_of older (known older) j)))
    (bytes_come j older ++ bytes) (known older)
known (End j ∷ older) = known older

unopened : (j : ℕ) (answers : List Answer) (files : Files) → opened_name j answers ≡ None
    → rest_of answers files j ≡ []
unopened j [] files none = refl
unopened j (Opened i name ∷ older) files none = either (j == i) none (λ is. unopened j older files is)
  where
    either : (same : Bool) → (if same then Some name else opened_name j older) ≡ None
        → (opened_name j older ≡ None → rest_of older files j ≡ [])
        → (if same then text_of (get files name) else rest_of older files j) ≡ []
    either true is rest = absurd cc
    either false is rest = rest is
unopened j (Missing name ∷ older) files none = unopened j older files none
unopened j (Read i bytes ∷ older) files none = either (j == i) (unopened j older files none)
  where
    either : (same : Bool) {rest : List ℕ} → rest ≡ [] → (if same then drop (length bytes) rest else rest) ≡ []
    either true is = ap (drop (length bytes)) is ∙ drop_all {X = ℕ} (length bytes) [] (omega arith)
    either false is = is
unopened j (End i ∷ older) files none = unopened j older files none

-- These files agree, and others that agree have no less in them.
record Best (answers : List Answer) (low high : Files) : Type 0 where
  agree : Agree answers low
  under : Under low high

opened-best : (j : ℕ) (name : List ℕ) (older : List Answer) (low high : Files) → Best older low high
    → Agree (Opened j name ∷ older) high
    → Best (Opened j name ∷ older) (insert low name (text_of (get low name))) high
opened-best j name older low high best agree =
    let text = text_of (get low name) in
    let between = inserted low high name text best.under (below-text (get low name))
    (subst (λ (o : Option (List ℕ)). Below (Some text) o) (sym agree.1)
    (text-below (get low name) (get high name) (best.under name))) in
    record {
      agree = (
        agree-between older low (insert low name text) high between.lower between.upper best.agree agree.0,
        there (get (insert low name text) name) (get-there low name text),
      );
      under = between.upper;
    }

read-best : (j : ℕ) (bytes : List ℕ) (older : List Answer) (low high : Files) (named : Option (List ℕ)) (enough : Bool)
    → opened_name j older ≡ named → nat_le (length bytes) (length (rest_of older low j)) ≡ enough
    → Best older low high → Agree (Read j bytes ∷ older) high
    → Best (Read j bytes ∷ older) (with_text named enough (bytes_come j older ++ bytes) low) high
read-best j bytes older low high None enough named test best agree =
    let begun : Begins bytes (rest_of older high j) = record {
      more = drop (length bytes) (rest_of older high j);
      is = agree.1;
    } in
    let none : bytes ≡ [] = nothing-begins begun (unopened j older high named) in
    record {
      agree = (
        best.agree,
        longer-begins bytes (rest-begins older low high best.under j) agree.1
            (omega (arith, ap length none)),
      );
      under = best.under;
    }
read-best j bytes older low high (Some name) true named test best agree = record {
  agree = (
    best.agree,
    longer-begins bytes (rest-begins older low high best.under j) agree.1
        (leb-true (length bytes) (length (rest_of older low j)) test),
  );
  under = best.under;
}
read-best j bytes older low high (Some name) false named test best agree =
    let come = bytes_come j older in
    let text = come ++ bytes in
    let rest = rest_of older high j in
    let before = rest_of older low j in
    let begins = rest-begins older low high best.under j in
    let short : length before < length bytes = leb-false (length bytes) (length before) test in
    let begun : Begins bytes rest = record { more = drop (length bytes) rest; is = agree.1 } in
    let longer : bytes ≡ before ++ drop (length before) bytes =
    longer-begins before begun (begins-with before begins.more begins.is) (omega (arith, short)) in
    let lower : Below (get low name) (Some text) = subst (λ (o : Option (List ℕ)). Below o (Some text))
    (sym (has-all j name older low named best.agree)) (record {
      more = drop (length before) bytes;
      is = ap (λ (b : List ℕ). come ++ b) longer ∙ sym (append_assoc come before (drop (length before) bytes));
    }) in
    let upper : Below (Some text) (get high name) = subst (λ (o : Option (List ℕ)). Below (Some text) o)
    (sym (has-all j name older high named agree.0)) (record {
      more = drop (length bytes) rest;
      is = ap (λ (r : List ℕ). come ++ r) agree.1 ∙ sym (append_assoc come bytes (drop (length bytes) rest));
    }) in
    let between = inserted low high name text best.under lower upper in
    let mid = insert low name text in
    let agrees = agree-between older low mid high between.lower between.upper best.agree agree.0 in
    let all : Some (come ++ rest_of older mid j) ≡ Some text =
    sym (has-all j name older mid named agrees) ∙ get-there low name text in
    record {
      agree = (
        agrees,
        begins-with bytes [] (append_cancel_left come (rest_of older mid j) bytes
            (ap text_of all) ∙ sym (append-nil bytes)),
      );
      under = between.upper;
    }

best-known : (answers : List Answer) (files : Files) → Agree answers files → Best answers (known answers) files
best-known [] files agree = record {
  agree = tt;
  under = λ name. subst (λ (o : Option (List ℕ)). Below o (get files name)) (sym (get-empty (slice_cmp nat_cmp) name))
      tt;
}
best-known (Opened j name ∷ older) files agree =
    opened-best j name older (known older) files (best-known older files agree.0) agree
best-known (Missing name ∷ older) files agree =
    let best = best-known older files agree.0 in
    record {
      agree = (
        best.agree,
        still-missing (get (known older) name) (get files name) (best.under name) agree.1,
      );
      under = best.under;
    }
best-known (Read j bytes ∷ older) files agree =
    read-best j bytes older (known older) files (opened_name j older)
    (nat_le (length bytes) (length (rest_of older (known older) j))) refl refl (best-known older files agree.0) agree
best-known (End j ∷ older) files agree =
    let best = best-known older files agree.0 in
    record {
      agree = (best.agree, nothing-begins (rest-begins older (known older) files best.under j) agree.1);
      under = best.under;
    }

-- ## Whether files agree

abbrev Decided : Type 0 → Type 0
Decided A = A ⊎ (A → ⊥)

both-decided : {A B : Type 0} → Decided A → Decided B → Decided (A × B)
both-decided (inl a) (inl b) = inl (a, b)
both-decided (inl a) (inr other) = inr (λ p. other p.1)
both-decided (inr other) second = inr (λ p. other p.0)

texts-decided : (xs ys : List ℕ) → Decided (xs ≡ ys)
texts-decided xs ys = either (bytes_eq xs ys) refl
  where
    either : (same : Bool) → bytes_eq xs ys ≡ same → Decided (xs ≡ ys)
    either true same = inl ((bytes_decides xs ys).0 same)
    either false other = inr (λ is. absurd (let both : true ≡ false = sym ((bytes_decides xs ys).1 is) ∙ other in cc))

there-decided : (o : Option (List ℕ)) → Decided (o ≡ Some (text_of o))
there-decided None = inr (λ is. absurd cc)
there-decided (Some text) = inl refl

missing-decided : (o : Option (List ℕ)) → Decided (o ≡ None)
missing-decided None = inl refl
missing-decided (Some text) = inr (λ is. absurd cc)

agree-decided : (answers : List Answer) (files : Files) → Decided (Agree answers files)
agree-decided [] files = inl tt
agree-decided (Opened j name ∷ older) files =
    both-decided (agree-decided older files) (there-decided (get files name))
agree-decided (Missing name ∷ older) files =
    both-decided (agree-decided older files) (missing-decided (get files name))
agree-decided (Read j bytes ∷ older) files = both-decided (agree-decided older files)
    (texts-decided (rest_of older files j) (bytes ++ drop (length bytes) (rest_of older files j)))
agree-decided (End j ∷ older) files =
    both-decided (agree-decided older files) (texts-decided (rest_of older files j) [])

some-agree : (answers : List Answer) → Decided (Agree answers (known answers))
    → ((files : Files) × Agree answers files) ⊎ NoneAgree answers
some-agree answers (inl agree) = inl (known answers, agree)
some-agree answers (inr other) = inr (λ files agree. other (best-known answers files agree).agree)

pub some-or-none : (answers : List Answer) → ((files : Files) × Agree answers files) ⊎ NoneAgree answers
some-or-none answers = some-agree answers (agree-decided answers (known answers))
