use Rattle.std.proofs.Common.{arith}
use Rattle.tcl_expression_evaluation.proofs.UnderWay.{begins, goes_on, ends, none_of}
use Rattle.tcl_expression_evaluation.proofs.at_hand.number_of_steps.Goals as goal

pub steps-init : goal.steps-init
steps-init c = λ texts wait. begins c.args.frames.now.frames c.args.style texts c.args.nodes.now c.args.waiting.items wait

pub steps-smaller : goal.steps-smaller
steps-smaller c = omega (arith, c.in-Some.ensures.cases.1, c.in_ok-rest.ensures.fewer)

pub steps-preserved : goal.steps-preserved
steps-preserved c = λ texts wait.
    goes_on c.args.frames.now.frames c.args.style texts c.args.nodes.now c.steps.rest.now c.in-Some.more.now _ c.in-Some.node.now c.steps.waiting.items c.step_at_hand.new.waiting.items
    (c.steps.invariant texts wait) c.in-Some.ensures.cases.0 c.in_ok-rest.ensures.does

pub returns : goal.returns
returns c = λ texts wait.
    ends c.pop.result c.args.frames.now.frames c.args.style texts c.args.nodes.now c.steps.rest.now c.steps.waiting.items c.pop.new.self.items (c.steps.invariant texts wait) (none_of c.steps.rest.now c.in_default.ensures.cases) c.pop.ensures.items
