-- The built-in words stand first, whatever is done to the names.
use Rattle.cw_names.proofs.Terms.{◌≡◌, ℕ, zero, suc, Bool, List, [], ◌∷◌, ◌++◌, refl, sym, ap, ◌∙◌, append_assoc}
use Rattle.cw_names.proofs.Terms.{if◌then◌else◌, arith, map-append, append-nil, Cat, EntryKind, Entry, with_entry}
use Rattle.cw_names.proofs.Terms.{with_category, built_in_words, words_of, nat_tests}
use Rattle.cw_names.specs.Words.{BeginsWithWords}

pub words-first : BeginsWithWords built_in_words
unfolding BeginsWithWords
words-first = ([], sym (append-nil (words_of built_in_words)))

-- categories are no part of it
words-with_category : (place : ℕ) (cat : Cat) (entries : List Entry) → words_of (with_category place cat entries)
    ≡ words_of entries
words-with_category place cat [] = refl
words-with_category zero cat (entry ∷ entries) = refl
words-with_category (suc place) cat (entry ∷ entries) = grind (arith, nat_tests, words-with_category place cat entries)

pub words-changed : (place : ℕ) (cat : Cat) (entries : List Entry) → BeginsWithWords entries
    → BeginsWithWords (with_category place cat entries)
unfolding BeginsWithWords
words-changed place cat entries begins = (begins.0, words-with_category place cat entries ∙ begins.1)

more : (entry : Entry) (entries : List Entry) → BeginsWithWords entries → BeginsWithWords (entries ++ entry ∷ [])
unfolding BeginsWithWords
more entry entries begins = (
  begins.0 ++ (entry.kind, entry.text) ∷ [],
  map-append (λ (e : Entry). (e.kind, e.text)) entries (entry ∷ []) ∙ ap (λ words. words ++ (entry.kind, entry.text)
      ∷ []) begins.1 ∙ append_assoc (words_of built_in_words) begins.0 ((entry.kind, entry.text) ∷ []),
)

by-test : (b : Bool) (entry : Entry) (entries : List Entry) → BeginsWithWords entries
    → BeginsWithWords (if b then entries else entries ++ entry ∷ [])
by-test x1 entry entries begins = grind (arith, nat_tests, more)

pub words-entered : (kind : EntryKind) (text : List ℕ) (entries : List Entry) → BeginsWithWords entries
    → BeginsWithWords (with_entry kind text entries)
words-entered kind text entries begins = grind (arith, nat_tests, by-test)
