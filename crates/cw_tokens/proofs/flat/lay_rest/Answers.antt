-- Each token is laid flat, or the walk goes on in the list to which it refers.
use Rattle.cw_tokens.proofs.Terms.{ap, refl, ref_of, shape}
use Rattle.cw_tokens.proofs.Places.{above-cut}
use Rattle.cw_tokens.proofs.TrimmedWalk.{first-within, first-itself, inner-less, lays-below, lays-inner, lays-leaf}
use Rattle.cw_tokens.proofs.TrimmedWalk.{lays-word, list-less}
use Rattle.cw_tokens.specs.declared.flat.FlatItem.TheVariants as flat_item
use Rattle.cw_tokens.proofs.flat.lay_rest.Goals as goal

pub loop-rest-preserved-in-Source : goal.loop-rest-preserved-in-Source
loop-rest-preserved-in-Source c = lays-leaf _ c.requires.tied _ _ _ _ _ _ c.loop-rest.invariant _
    c.in-len1-up.len_at_least _ (first-itself _ _ _ _ c.in-Source.is c.loop-rest.invariant.within
    c.in-len1-up.len_at_least) _ (flat_item.Source c.in-Source.number) refl c.in_ok-push-in-Source.ensures

pub loop-rest-preserved-in-Ident : goal.loop-rest-preserved-in-Ident
loop-rest-preserved-in-Ident c = lays-leaf _ c.requires.tied _ _ _ _ _ _ c.loop-rest.invariant _
    c.in-len1-up.len_at_least _ (first-itself _ _ _ _ c.in-Ident.is c.loop-rest.invariant.within
    c.in-len1-up.len_at_least) _ (flat_item.Ident c.in-Ident.name c.in-Ident.number) refl c.in_ok-push-in-Ident.ensures

pub loop-rest-preserved-in-Reserved : goal.loop-rest-preserved-in-Reserved
loop-rest-preserved-in-Reserved c =
    lays-leaf _ c.requires.tied _ _ _ _ _ _ c.loop-rest.invariant _ c.in-len1-up.len_at_least _
    (first-itself _ _ _ _ c.in-Reserved.is c.loop-rest.invariant.within c.in-len1-up.len_at_least) _
    (flat_item.Reserved c.in-Reserved.name c.in-Reserved.number) refl c.in_ok-push-in-Reserved.ensures

pub loop-rest-preserved-in-Control : goal.loop-rest-preserved-in-Control
loop-rest-preserved-in-Control c = lays-leaf _ c.requires.tied _ _ _ _ _ _ c.loop-rest.invariant _
    c.in-len1-up.len_at_least _ (first-itself _ _ _ _ c.in-Control.is c.loop-rest.invariant.within
    c.in-len1-up.len_at_least) _ (flat_item.Control c.in-Control.control) refl c.in_ok-push-in-Control.ensures

pub list_at-list-requires-clause-list : goal.list_at-list-requires-clause-list
list_at-list-requires-clause-list c = above-cut _ _ _ (first-within _ _ _ c.loop-rest.invariant.within
    c.in-len1-up.len_at_least _ (ap (λ t. ref_of (shape t)) c.in-List.is))

pub loop-rest-preserved-in-Some : goal.loop-rest-preserved-in-Some
loop-rest-preserved-in-Some c = lays-word _ c.requires.tied _ _ _ _ _ _ c.loop-rest.invariant _
    c.in-len1-up.len_at_least _ (first-itself _ _ _ _ c.in-List.is c.loop-rest.invariant.within
    c.in-len1-up.len_at_least) _ _ c.list_at-list.ensures refl _ c.in-Some.ensures c.in_ok-push-in-Some.ensures

pub loop-rest-smaller-in-None : goal.loop-rest-smaller-in-None
loop-rest-smaller-in-None c = list-less _ c.requires.tied _ _ _ _ _ _ c.loop-rest.invariant _ c.in-len1-up.len_at_least
    _ (first-itself _ _ _ _ c.in-List.is c.loop-rest.invariant.within c.in-len1-up.len_at_least) _ _
    c.list_at-list.ensures _ refl c.in_ok-put_above-in-None.ensures

pub loop-rest-preserved-in-None : goal.loop-rest-preserved-in-None
loop-rest-preserved-in-None c = lays-below _ c.requires.tied _ _ _ _ _ _ c.loop-rest.invariant _
    c.in-len1-up.len_at_least _ (first-itself _ _ _ _ c.in-List.is c.loop-rest.invariant.within
    c.in-len1-up.len_at_least) _ _ c.list_at-list.ensures _ refl c.in_ok-put_above-in-None.ensures

pub list_at-rest-requires-clause-list : goal.list_at-rest-requires-clause-list
list_at-rest-requires-clause-list c = above-cut _ _ _ (first-within _ _ _ c.loop-rest.invariant.within
    c.in-len1-up.len_at_least _ (ap (λ t. ref_of (shape t)) c.in-Inner.is))

pub loop-rest-smaller : goal.loop-rest-smaller
loop-rest-smaller c = inner-less _ c.requires.tied _ _ _ _ _ _ c.loop-rest.invariant _ c.in-len1-up.len_at_least _
    (first-itself _ _ _ _ c.in-Inner.is c.loop-rest.invariant.within c.in-len1-up.len_at_least) _ _
    c.list_at-rest.ensures _ refl c.in_ok-put_above-in-Inner.ensures

pub loop-rest-preserved : goal.loop-rest-preserved
loop-rest-preserved c = lays-inner _ c.requires.tied _ _ _ _ _ _ c.loop-rest.invariant _ c.in-len1-up.len_at_least _
    (first-itself _ _ _ _ c.in-Inner.is c.loop-rest.invariant.within c.in-len1-up.len_at_least) _ _
    c.list_at-rest.ensures _ _ refl c.in_ok-put_above-in-Inner.ensures c.in_ok-push-in-Inner.ensures
