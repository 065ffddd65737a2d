use Rattle.std.proofs.Common.{◌≡◌, ℕ, ◌||◌, Bool, true, ◌+◌, ◌-◌, ◌<◌, List, drop, get_or, length, set, take, ap, sym, ◌∙◌, arith}
use Rattle.std.proofs.lemmas.List.{at_drop_all, at_drop_more, length-drop, take_all}
use Rattle.tw_model.specs.Rules.{repeats}
use Rattle.tw_instance.specs.Marks.{is_met}
use Rattle.tw_instance.proofs.Marks.{meets, meets_none}
use Rattle.tw_instance.proofs.rules.repeats.Goals as goal

-- at a place, where the nodes behind it are given as a range
module _ (marks : List Bool) (nodes : List ℕ) (i : ℕ) (b : Bool) (below : i < length nodes)
    (given : b ≡ is_met marks (get_or nodes i 0) (take (length nodes - (i + 1)) (drop (i + 1) nodes))) (same : meets marks (drop i nodes) ≡ repeats nodes) where
  one_on : (b || meets (set marks (get_or nodes i 0) true) (drop (i + 1) nodes)) ≡ repeats nodes
  one_on =
      let met = given ∙ ap (is_met marks (get_or nodes i 0)) (take_all (length nodes - (i + 1)) (drop (i + 1) nodes) (let n = length-drop (i + 1) nodes in omega arith)) in
      ap (λ (x : Bool). x || meets (set marks (get_or nodes i 0) true) (drop (i + 1) nodes)) met ∙ (sym (at_drop_more (meets marks) nodes i 0 below) ∙ same)

pub loop-i-init : goal.loop-i-init
loop-i-init c = meets_none 1024 c.args.nodes.now

pub returns-then-is_met : goal.returns-then-is_met
returns-then-is_met c =
    let later = meets (set c.loop-i.marks (get_or c.args.nodes.now c.loop-i.i 0) true) (drop (c.loop-i.i + 1) c.args.nodes.now) in
    ap (λ (b : Bool). b || later) (sym c.if-is_met.true) ∙ one_on c.loop-i.marks c.args.nodes.now c.loop-i.i c.is_met.result c.loop-i-test.true c.is_met.ensures c.loop-i.invariant

pub loop-i-preserved : goal.loop-i-preserved
loop-i-preserved c =
    let nodes = c.args.nodes.now in
    let later = meets (set c.loop-i.marks (get_or nodes c.loop-i.i 0) true) (drop (c.loop-i.i + 1) nodes) in
    ap (λ (marks : List Bool). meets marks (drop (c.loop-i.i + 1) nodes)) c.set_mark.ensures
    ∙ (ap (λ (b : Bool). b || later) (sym c.if-is_met.false) ∙ one_on c.loop-i.marks nodes c.loop-i.i c.is_met.result c.loop-i-test.true c.is_met.ensures c.loop-i.invariant)

pub returns : goal.returns
returns c = sym (at_drop_all (meets c.loop-i.marks) c.args.nodes.now c.loop-i.i c.loop-i-test.false) ∙ c.loop-i.invariant
