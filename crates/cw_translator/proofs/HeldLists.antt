-- How the list of what holds inner texts is built, one part after the other: that of a comment and of a section name.
use Rattle.cw_translator.proofs.Terms.{◌≡◌, ℕ, ◌+◌, ◌<◌, ◌≤◌, Option, Some, None, List, [], ◌∷◌, ◌++◌, length, map}
use Rattle.cw_translator.proofs.Terms.{drop, get_or, refl, ap, ◌∙◌, subst, option_map, option_to_list, drop_more}
use Rattle.cw_translator.proofs.Terms.{drop_all, append_assoc, Text, Maybe, Tree, Then, Inner, Source, Token, source}
use Rattle.cw_translator.proofs.Terms.{Control, shape, ref_of, tree_in, trees_from, unfolded, unfolded-new, StoredLists}
use Rattle.cw_translator.proofs.Terms.{MayBePushed, AreRoots, refs_in, Gathers, Builds, builds-more, builds-may}
use Rattle.cw_translator.proofs.Terms.{builds-lists, builds-gathers, CommentPart, part_seen, inner_lists, token_of}
use Rattle.cw_translator.proofs.Terms.{comment_rest, behind_name, name_part, name_rest, sign_tokens}
use Rattle.std.specs.List.{flat_map}
use Rattle.std.proofs.Common.{arith}
use Rattle.cw_trees.specs.declared.Control.TheVariants as control
use Rattle.cw_translator.specs.declared.comments.CommentPart.TheVariants as part

-- the tokens of the parts from one on, and of the end
abbrev pub left_from : (CommentPart → List Token) → List Token → ℕ → List CommentPart → List Token
left_from piece ending i parts = flat_map piece (drop i parts) ++ ending

module _ (lists : List (List Token)) (all : List Token) (piece : CommentPart → List Token) (ending : List Token)
    (parts : List CommentPart) (i : ℕ) (store : StoredLists)
    (b : Builds lists all (left_from piece ending i parts) store) where
  module _ (d : CommentPart) (h : i < length parts) where
    abbrev p : CommentPart
    p = get_or parts i d

    part-next : Builds lists all (piece p ++ left_from piece ending (i + 1) parts) store
    part-next = grind (arith, drop_more, append_assoc)

    pub part-may : AreRoots lists (refs_in all) → ((q : CommentPart) (ts : List Token) → refs_in (piece q ++ ts)
        ≡ option_to_list (ref_of (shape (token_of q))) ++ refs_in ts) → MayBePushed store (token_of p)
    part-may roots refs = builds-may lists all (piece p ++ left_from piece ending (i + 1) parts) store (token_of p)
        (refs_in (left_from piece ending (i + 1) parts)) roots part-next (refs p (left_from piece ending (i + 1) parts))

    pub part-more : (new : StoredLists) → new.building ≡ option_map (λ tokens. tokens ++ piece p) store.building
        → new.lists ≡ store.lists → Builds lists all (left_from piece ending (i + 1) parts) new
    part-more new building same = grind (arith, builds-more, part-next)

  pub parts-end : length parts ≤ i → Builds lists all ending store
  parts-end h = subst (λ ps. Builds lists all (flat_map piece ps ++ ending) store) (drop_all i parts h) b

-- the list that was built
pub built : (lists : List (List Token)) (all : List Token) (store : StoredLists) (new : List (List Token)) (list : ℕ)
    (parts : List CommentPart) (tree : Tree) → tree_in (trees_from [] lists) all ≡ tree
    → refs_in all ≡ inner_lists parts → Builds lists all [] store → new ≡ store.lists ++ option_to_list store.building
    → list ≡ length store.lists → (unfolded new list ≡ tree) × Gathers lists new (inner_lists parts) list
built lists all store new list parts tree is refs b grown place = (
  ap (λ ls. unfolded ls list) (builds-lists lists all store new b grown)
      ∙ (ap (unfolded (lists ++ all ∷ [])) (place ∙ ap length b.same) ∙ (unfolded-new lists all ∙ is)),
  builds-gathers lists all store new (inner_lists parts) list b grown place refs,
)

-- ## A comment

abbrev pub comment_piece : CommentPart → List Token
comment_piece p = token_of p ∷ []

abbrev pub comment_end : List Token
comment_end = Control control.CommentEnd ∷ Control control.Break ∷ []

abbrev pub comment_tokens : ℕ → List CommentPart → List Token
comment_tokens number parts =
    Control control.Cancel ∷ source number Text ∷ (flat_map comment_piece parts ++ comment_end)

pub comment-refs : (parts : List CommentPart)
    → refs_in (flat_map comment_piece parts ++ comment_end) ≡ inner_lists parts
comment-refs [] = refl
comment-refs (part.Piece number ∷ parts) = comment-refs parts
comment-refs (part.InnerText list ∷ parts) = ap (λ xs. list.index ∷ xs) (comment-refs parts)

pub comment-rest : (lists : List (List Token)) (parts : List CommentPart) → tree_in (trees_from [] lists)
    (flat_map comment_piece parts ++ comment_end) ≡ comment_rest (map (part_seen lists) parts)
comment-rest lists [] = refl
comment-rest lists (part.Piece number ∷ parts) = ap (Then (Source number Text)) (comment-rest lists parts)
comment-rest lists (part.InnerText list ∷ parts) = ap (Inner (unfolded lists list.index)) (comment-rest lists parts)

-- ## A section name

abbrev pub name_end : Option ℕ → List Token
name_end sign = Control control.NameEnd ∷ sign_tokens sign

abbrev pub name_tokens : ℕ → Option ℕ → List CommentPart → List Token
name_tokens number sign parts = source number Maybe ∷ (flat_map name_part parts ++ name_end sign)

pub name-ref : (p : CommentPart) (ts : List Token)
    → refs_in (name_part p ++ ts) ≡ option_to_list (ref_of (shape (token_of p))) ++ refs_in ts
name-ref p ts = grind arith

pub name-refs : (sign : Option ℕ) (parts : List CommentPart)
    → refs_in (flat_map name_part parts ++ name_end sign) ≡ inner_lists parts
name-refs None [] = refl
name-refs (Some number) [] = refl
name-refs sign (part.Piece number ∷ parts) = name-refs sign parts
name-refs sign (part.InnerText list ∷ parts) = ap (λ xs. list.index ∷ xs) (name-refs sign parts)

pub name-rest : (lists : List (List Token)) (sign : Option ℕ) (parts : List CommentPart) → tree_in (trees_from [] lists)
    (flat_map name_part parts ++ name_end sign) ≡ name_rest (map (part_seen lists) parts) (behind_name sign)
name-rest lists None [] = refl
name-rest lists (Some number) [] = refl
name-rest lists sign (part.Piece number ∷ parts) = name-rest lists sign parts
name-rest lists sign (part.InnerText list ∷ parts) = grind (arith, name-rest lists sign parts, unfolded)
