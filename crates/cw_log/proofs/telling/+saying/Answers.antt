-- A token says its names, and one that refers to a list those of an earlier one.
use Rattle.cw_log.proofs.Terms.{◌<◌, ◌+◌, ◌*◌, true, false, refl, slice_index_or, arith, subst, Token, IsTied, IsSaid}
use Rattle.cw_base.specs.declared.mode.MathMode.TheVariants.{Text}
use Rattle.cw_tokens.specs.declared.token.Token.TheVariants.{Source}
use Rattle.cw_log.proofs.SayLaws.{below-earlier, list_said, one-said, rank-falls, said-all, said-stopped, tied-front}
use Rattle.cw_log.proofs.SayLaws.{token_rank, tree-said}
use Rattle.cw_log.proofs.telling.+saying.Goals as goal

pub say-say_token-requires : goal.say-say_token-requires
say-say_token-requires t c =
    let tied : IsTied c.args.store.now.lists = tied-front c.args.store.now.lists c.args.store.now.building
    c.tied_law.ensures in
    let token : Token = slice_index_or c.tokens-token-items.result.now c.loop-token.token-index (Source 0 Text) in
    let falls : token_rank token < 2 * c.args.list.index + 1 = rank-falls c.args.store.now.lists
    c.tokens-token-items.result.now c.args.list.index c.loop-token.token-index token
    (Source 0 Text) tied c.tokens-token-items.ensures.tokens c.loop-token-test.true refl in (
      omega (arith, c.decreases, falls),
      λ x e.
          let less : x < c.args.list.index = below-earlier c.args.store.now.lists c.tokens-token-items.result.now
          c.args.list.index c.loop-token.token-index x token
          (Source 0 Text) tied c.tokens-token-items.ensures.tokens c.loop-token-test.true refl e in
          omega (arith, less, c.requires),
    )

pub say-returns-then-branch : goal.say-returns-then-branch
say-returns-then-branch t c =
    let tied : IsTied c.args.store.now.lists = tied-front c.args.store.now.lists c.args.store.now.building
    c.tied_law.ensures in
    tree-said c.args.store.now.lists c.args.list.index c.args.names.now.items c.say_token.new.names.items true tied
    c.requires (subst (λ ts. IsSaid (list_said c.args.store.now.lists ts) c.args.names.now.items
    c.say_token.new.names.items true) c.tokens-token-items.ensures.tokens
    (said-stopped c.args.store.now.lists c.tokens-token-items.result.now c.loop-token.token-index c.args.names.now.items
    c.loop-token.names.items c.say_token.new.names.items _ _ c.in_ok-say_token.field-0 c.loop-token.invariant.read
    c.loop-token-test.true refl c.in_ok-say_token.ensures c.if-branch.true))

pub say-loop-token-preserved : goal.say-loop-token-preserved
say-loop-token-preserved t c = record {
  is = c.loop-token.invariant.is;
  read = one-said c.args.store.now.lists c.tokens-token-items.result.now c.loop-token.token-index
      c.args.names.now.items c.loop-token.names.items c.say_token.new.names.items _ _ c.in_ok-say_token.field-0
      c.loop-token.invariant.read c.loop-token-test.true refl c.in_ok-say_token.ensures c.if-branch.false;
}

pub say-returns : goal.say-returns
say-returns t c =
    let tied : IsTied c.args.store.now.lists = tied-front c.args.store.now.lists c.args.store.now.building
    c.tied_law.ensures in
    tree-said c.args.store.now.lists c.args.list.index c.args.names.now.items c.loop-token.names.items false tied
    c.requires (subst (λ ts. IsSaid (list_said c.args.store.now.lists ts) c.args.names.now.items
    c.loop-token.names.items false) c.tokens-token-items.ensures.tokens
    (said-all c.args.store.now.lists c.tokens-token-items.result.now c.loop-token.token-index c.args.names.now.items
    c.loop-token.names.items c.loop-token.invariant.read (omega (arith, c.loop-token-test.false))))
