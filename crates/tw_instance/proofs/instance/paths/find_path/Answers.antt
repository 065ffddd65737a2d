use Rattle.std.proofs.Common.{◌∷◌, ap, sym, ◌∙◌, arith}
use Rattle.tw_event.specs.declared.event.PathNo.{PathNo}
use Rattle.tw_model.specs.Net.{same_path}
use Rattle.tw_instance.proofs.Hashes.{is_first, is_none}
use Rattle.tw_instance.proofs.instance.paths.find_path.Goals as goal

abbrev no_path : PathNo
no_path = record { 0 = 0 }

pub returns-then-is_made_of : goal.returns-then-is_made_of
returns-then-is_made_of c =
    let first = is_first c.args.instance.now c.args.node c.args.rest.now c.hash_of-hash.result c.args.numbers.now c.args.hashes.now c.loop-skipped.start
    c.in-Some.skipped no_path c.hash_of-hash.ensures c.requires.hashes c.in-Some.ensures in
    let made = ap (λ p. same_path p (c.args.node ∷ c.args.rest.now)) (sym c.path.ensures.value) ∙ sym c.is_made_of.ensures in
    sym (first.here (made ∙ c.if-is_made_of.true)) ∙ c.loop-skipped.invariant.same

pub loop-skipped-preserved : goal.loop-skipped-preserved
loop-skipped-preserved c =
    let first = is_first c.args.instance.now c.args.node c.args.rest.now c.hash_of-hash.result c.args.numbers.now c.args.hashes.now c.loop-skipped.start
    c.in-Some.skipped no_path c.hash_of-hash.ensures c.requires.hashes c.in-Some.ensures in
    let made = ap (λ p. same_path p (c.args.node ∷ c.args.rest.now)) (sym c.path.ensures.value) ∙ sym c.is_made_of.ensures in
    record {
      within = let below = first.within in omega arith;
      same = sym (first.later (made ∙ c.if-is_made_of.false)) ∙ c.loop-skipped.invariant.same;
    }

pub returns : goal.returns
returns c =
    let none = is_none c.args.instance.now c.args.node c.args.rest.now c.hash_of-hash.result c.args.numbers.now c.args.hashes.now c.loop-skipped.start
    c.hash_of-hash.ensures c.requires.hashes c.in_default.ensures in
    sym none ∙ c.loop-skipped.invariant.same
