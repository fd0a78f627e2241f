-- One block after another.
use Rattle.cw_log.proofs.Terms.{◌≡◌, ◌+◌, ◌≤◌, [], length, map, subst, sym, ap, arith, common_steps, Judges}
use Rattle.cw_log.proofs.Terms.{production_of, block_of, told}
use Rattle.cw_log.proofs.CheckLaws.{CheckedSoFar, all-accepted, block-accepted, block-few, block-rejected, none-checked}
use Rattle.cw_log.proofs.checking.check_log.Goals as goal

pub loop-rest-init : goal.loop-rest-init
loop-rest-init g c = none-checked c.args.log.now c.requires.log

pub overflow_add-texts : goal.overflow_add-texts
overflow_add-texts g c =
    let few : c.loop-rest.texts + c.loop-rest.productions + length c.in_ok-block.block.log.items + 1 ≤ length
    c.args.log.now = block-few c.args.log.now c.loop-rest.rest.now c.loop-rest.texts c.loop-rest.productions
    c.loop-rest.names c.read_block.new.names c.in_ok-block.block c.loop-rest.invariant c.in_ok-block.ensures.ok in
    omega (arith, few, c.requires.short)

pub overflow_add-productions : goal.overflow_add-productions
overflow_add-productions g c =
    let few : c.loop-rest.texts + c.loop-rest.productions + length c.in_ok-block.block.log.items + 1 ≤ length
    c.args.log.now = block-few c.args.log.now c.loop-rest.rest.now c.loop-rest.texts c.loop-rest.productions
    c.loop-rest.names c.read_block.new.names c.in_ok-block.block c.loop-rest.invariant c.in_ok-block.ensures.ok in
    let same : length c.as_slice.result.now ≡ length c.in_ok-block.block.log.items = ap length c.as_slice.ensures in
    omega (arith, few, same, c.requires.short)

pub returns-in-Rejected : goal.returns-in-Rejected
returns-in-Rejected g c = block-rejected c.args.log.now c.loop-rest.rest.now c.loop-rest.texts c.loop-rest.productions
    c.in-Rejected.after c.loop-rest.names c.read_block.new.names c.in_ok-block.block c.loop-rest.invariant
    c.in_ok-block.ensures.ok (subst (λ v. Judges (map production_of c.in_ok-block.block.log.items)
    (told (block_of c.read_block.new.names c.in_ok-block.block.log)) v) c.in-Rejected.is c.in_ok-check_block.ensures)

pub loop-rest-preserved : goal.loop-rest-preserved
loop-rest-preserved g c =
    let same : length c.as_slice.result.now ≡ length c.in_ok-block.block.log.items = ap length c.as_slice.ensures in
    subst (λ n. CheckedSoFar c.args.log.now c.in_ok-block.block.rest.now (c.loop-rest.texts + 1)
    (c.loop-rest.productions + n)) (sym same) (block-accepted c.args.log.now c.loop-rest.rest.now c.loop-rest.texts
    c.loop-rest.productions c.loop-rest.names c.read_block.new.names c.in_ok-block.block c.loop-rest.invariant
    c.in_ok-block.ensures.ok (subst (λ v. Judges (map production_of c.in_ok-block.block.log.items)
    (told (block_of c.read_block.new.names c.in_ok-block.block.log)) v) c.in-Accepted.is c.in_ok-check_block.ensures))

pub returns : goal.returns
returns g c =
    let rest : c.loop-rest.rest.now ≡ [] = grind (arith, common_steps) in
    all-accepted c.args.log.now c.loop-rest.rest.now c.loop-rest.texts c.loop-rest.productions c.loop-rest.invariant
    rest
