-- A token becomes a scrap of what is open.
use Rattle.cw_translator.proofs.Terms.{◌≡◌, ℕ, ◌+◌, ◌*◌, ◌≤◌, List, [], ◌∷◌, ◌++◌, length, Option, None, Some, inl, inr}
use Rattle.cw_translator.proofs.Terms.{IsSome, IfSome, refl, sym, ap, ◌∙◌, subst, arith, All, slice_get, append-nil}
use Rattle.cw_translator.proofs.Terms.{TokKind, Seen, Entry, place_of, Token, tree_in, trees_from, Open, Frame}
use Rattle.cw_translator.proofs.Terms.{unfolded, StoredLists, token_ref, IsTied, tree_in-same, unfolded-new, Leaf}
use Rattle.cw_translator.proofs.Terms.{LineEntry, Keeps, LeafForm, HasForm, MakesLeaf, entry_of, token_form, names_with}
use Rattle.cw_translator.proofs.Terms.{seen, AreRoots, IsSoundLine, MarkList, State, IsGood, token-good, token-some}
use Rattle.cw_translator.proofs.Terms.{length-entry, Translator, with_entry, with_part, frames_of, all_roots}
use Rattle.cw_translator.proofs.Terms.{AreSoundScraps, IsSoundFrame, IsTranslating, progress_of, Progress, with_scrap}
use Rattle.cw_translator.proofs.Terms.{with_item, with_form, after_token, Piece, leaf_scrap, with_names}
use Rattle.cw_names.specs.declared.entry.EntryKind.TheVariants.{Ident as ident_kind}
use Rattle.cw_translator.specs.declared.comments.CommentPart.TheVariants as part
use Rattle.cw_translator.proofs.OpenLaws.{Ends, KeptRoots, Put, ends-kept, ends-frames, kept-put, entry-put, put-part}
use Rattle.cw_translator.proofs.OpenLaws.{plain-roots, plain-keeps, more-frames, scrap-sound, item-sound}

-- the form of a token that makes a scrap
formed-by : (o : Option LeafForm) (P : LeafForm → Type 0) → IsSome o → IfSome o P
    → (form : LeafForm) × (o ≡ Some form) × P form
formed-by o P some has = grind arith

-- what the definition does with it
abbrev form_behind : TokKind → Seen → Progress → Option LeafForm → Progress
form_behind k token p o =
    record { frames = with_form o p.frames; known = with_names (names_with k token.text p.known.names) p.known }

after-leaf : (k : TokKind) (token : Seen) (p : Progress) (form : LeafForm) → MakesLeaf k
    → token_form k token.text token.hash_line token.directive token.span.start p.known.names ≡ Some form
    → after_token k token p ≡ form_behind k token p (Some form)
after-leaf k token p form makes is = grind arith

-- the names do not get fewer
pub names-grow : (k : TokKind) (text : List ℕ) (names : List Entry) → length names ≤ length (names_with k text names)
names-grow k text names = grind (arith, length-entry)

pub record Steps (old new : StoredLists) (names names' : List Entry) (t t' : Translator) : Type 0 where
  pub translating : IsTranslating new names' t'
  pub keeps : Keeps old.lists new.lists (all_roots t.nesting) (all_roots t'.nesting)

-- nothing is changed but what is open
pub keeps-itself : (lists : List (List Token)) (rs : List ℕ) → Keeps lists lists rs rs
keeps-itself lists rs = record { lists = λ k o. refl; trees = λ k o. refl; outside = λ k o. o; free = λ k o f. f }

pub record Same (t t' : Translator) : Type 0 where
  pub scraps : t'.scraps ≡ t.scraps
  pub productions : t'.productions ≡ t.productions

-- no list is new
pub stay-steps : (store : StoredLists) (names : List Entry) (t t' : Translator) → IsTranslating store names t
    → all_roots t'.nesting ≡ all_roots t.nesting → All (IsSoundFrame (length names)) (frames_of store.lists t'.nesting)
    → Same t t' → Steps store store names names t t'
stay-steps store names t t' is same sound counts = grind (arith, keeps-itself, all_roots)

pub piece-steps : (store : StoredLists) (names : List Entry) (t t' : Translator) (number : ℕ) → IsTranslating store
    names t → t'.nesting ≡ with_part (part.Piece number) t.nesting → Same t t' → Steps store store names names t t'
piece-steps store names t t' number is made counts =
    let put : Put store.lists [] t.nesting t'.nesting (with_item (Piece number) (frames_of store.lists t.nesting)) =
    rw made (put-part store.lists (part.Piece number) t.nesting) in
    let same : all_roots t'.nesting ≡ all_roots t.nesting = elim put.roots [
      | inl e ↦ e ∙ append-nil (all_roots t.nesting)
      | inr e ↦ e
    ] in
    stay-steps store names t t' is same (rw put.is (item-sound (length names) (Piece number)
    (frames_of store.lists t.nesting) tt is.sound)) counts

-- A list takes the place of those of what ends, and becomes a part of what is open around it.
abbrev pub Placed : (old new : StoredLists) (names names' : List Entry) (t t' : Translator) → List Frame → Type 0
Placed old new names names' t t' frames = (frames_of new.lists t'.nesting ≡ frames)
    × (All (IsSoundFrame (length names')) frames → t'.productions ≤ 8 * t'.scraps → Steps old new names names' t t')

pub placed : {old new : StoredLists} {names names' : List Entry} {t t' : Translator} (outer : List Open) (rs : List ℕ)
    (list : ℕ) → IsTranslating old names t → IsTied old.lists → all_roots t.nesting ≡ all_roots outer ++ rs
    → Ends old new rs list → (among : List Frame → List Frame) → Put new.lists (list ∷ []) outer t'.nesting
    (among (frames_of new.lists outer)) → Placed old new names names' t t' (among (frames_of old.lists outer))
placed {old = old} {new = new} {t = t} {t' = t'} outer rs list is tied roots_are ends among put =
    let roots : AreRoots old.lists (all_roots outer ++ rs) = rw roots_are at is.roots in
    let frames : frames_of new.lists t'.nesting ≡ among (frames_of old.lists outer) = put.is
    ∙ ap among (ends-frames old new outer rs list tied roots ends) in
    let kept : KeptRoots old.lists new.lists (all_roots t.nesting) (all_roots t'.nesting) =
    kept-put old.lists new.lists (all_roots t.nesting) (list ∷ []) outer t'.nesting put.roots
    (rw roots_are (ends-kept old new outer rs list tied roots ends)) in (
      frames,
      λ sound light. record {
        translating = record { idle = ends.idle; roots = kept.roots; sound = rw frames sound; light = light };
        keeps = kept.keeps;
      },
    )

no-roots : (lists : List (List Token)) → AreRoots lists []
no-roots lists = grind arith

pub empty-line : (store : StoredLists) (ns : List Entry) → store.building ≡ None → IsSoundLine store ns []
empty-line store ns e = grind (arith, no-roots)

pub record LeafStep (k : TokKind) (token : Seen) (old new : StoredLists) (names names' : List Entry)
    (t t' : Translator) : Type 0 where
  pub steps : Steps old new names names' t t'
  pub progress : (marks : MarkList) (ended : List State) → progress_of new.lists names' marks t' ended
      ≡ after_token k token (progress_of old.lists names marks t ended)

module _ (k : TokKind) (token : Seen) (old new : StoredLists) (names names' : List Entry) (t t' : Translator)
    (leaf : Leaf) (is : IsTranslating old names t) (tied : IsTied old.lists) (makes : MakesLeaf k)
    (idle : new.building ≡ None) (has : IfSome (token_form k token.text token.hash_line token.directive
    token.span.start names) (λ form. HasForm form leaf old.lists new.lists))
    (named : names' ≡ names_with k token.text names)
    (sound : (line : List LineEntry) → IsSoundLine old names line → IsSoundLine new names' (line ++ entry_of leaf ∷ []))
    (made : t'.nesting ≡ with_entry (entry_of leaf) t.nesting) (counts : Same t t') where
  abbrev form_of : Option LeafForm
  form_of = token_form k token.text token.hash_line token.directive token.span.start names

  formed : (form : LeafForm) × (form_of ≡ Some form) × HasForm form leaf old.lists new.lists
  formed = grind (arith, formed-by, token-some)

  abbrev form : LeafForm
  form = formed.0

  plain : (p x : ℕ) → token_ref (slice_get form.tokens p) ≡ Some x → ⊥
  plain = (subst (λ o. IfSome o (IsGood (place_of ident_kind token.text names + 1))) formed.1 (token-good (place_of
      ident_kind token.text names + 1) k token.text token.hash_line token.directive token.span.start names
      (λ e. omega arith))).plain

  ends : Ends old new [] leaf.list.index
  ends = record {
    root = rw (formed.2.list, formed.2.lists) (plain-roots old.lists form.tokens [] tied (no-roots old.lists) plain);
    keeps = rw (formed.2.list, formed.2.lists) (plain-keeps old.lists form.tokens [] tied (no-roots old.lists) plain);
    idle = idle;
  }

  tree : unfolded new.lists leaf.list.index ≡ tree_in [] form.tokens
  tree = grind (arith, unfolded, unfolded-new, tree_in-same, trees_from, plain)

  scrap : seen new.lists (entry_of leaf) ≡ leaf_scrap form
  scrap = cc (formed.2.cat, tree, formed.2.left, formed.2.right)

  sound-alone : AreSoundScraps (length names') (leaf_scrap form ∷ [])
  sound-alone =
      let alone : IsSoundLine new names' (entry_of leaf ∷ []) = sound [] (empty-line old names is.idle) in
      subst (λ s. AreSoundScraps (length names') (s ∷ [])) scrap
      (record { named = alone.named; modes = alone.modes; fine = alone.fine })

  pub leaf-step : LeafStep k token old new names names' t t'
  leaf-step =
      let now : Placed old new names names' t t' (with_scrap (leaf_scrap form) (frames_of old.lists t.nesting)) = placed
      t.nesting [] leaf.list.index is tied (sym (append-nil (all_roots t.nesting))) ends (with_scrap (leaf_scrap form))
      (entry-put new.lists (entry_of leaf) t.nesting t'.nesting (leaf_scrap form) scrap made) in
      record {
        steps = now.1 (scrap-sound (length names') (leaf_scrap form) (frames_of old.lists t.nesting) sound-alone
            (more-frames (length names) (length names') (frames_of old.lists t.nesting)
            (rw named (names-grow k token.text names)) is.sound)) (rw (counts.scraps, counts.productions) is.light);
        progress = λ marks ended.
            cc (now.0, named, after-leaf k token (progress_of old.lists names marks t ended) form makes formed.1);
      }
