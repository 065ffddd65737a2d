use Rattle.std.proofs.Common.{◌≡◌, Some, Ok, Err, ap, sym, ◌∙◌, subst, arith}
use Rattle.std.proofs.lemmas.Result.{err_from_is_err_and}
use Rattle.tw_core.specs.Steps.{first_pending}
use Rattle.tw_model.specs.declared.memory.OrMemory.TheVariants as or_memory
use Rattle.tw_model.specs.Case.{simulation}
use Rattle.tw_shard.specs.Shard.{Shard, handling, handling_least, shard_core}
use Rattle.tw_shard.proofs.Leasts.{at_least}
use Rattle.tw_shard.proofs.shard.Shard.handle_least.Goals as goal

pub handle_first-requires-clause-next : goal.handle_first-requires-clause-next
handle_first-requires-clause-next c = λ stop.
    let e = c.copy_least.new.event in
    subst (λ (s : Shard). first_pending (simulation s.terms.case) (shard_core stop s) e.dst ≡ Some e) (sym (c.count_tick.ensures ∙ c.copy_least.ensures.same)) (c.if-not-copy_least.ensures.next stop)

pub returns-clause-ok : goal.returns-clause-ok
returns-clause-ok c = λ stop later.
    let s = c.args.self.now in
    let e = c.copy_least.new.event in
    let early = c.if-not-copy_least.ensures.before in
    at_least stop s e c.if-not-copy_least.ensures.least (omega arith)
    ∙ (ap (λ (t : Shard). handling stop t e.dst) (sym (c.count_tick.ensures ∙ c.copy_least.ensures.same)) ∙ c.in_ok-handle_first.ensures.ok stop (omega arith))

pub returns-clause-refused : goal.returns-clause-refused
returns-clause-refused c = λ f.
    let s = c.args.self.now in
    let e = c.copy_least.new.event in
    let early = c.if-not-copy_least.ensures.before in
    let done : handling_least c.args.limit s ≡ Ok (shard_core c.args.limit c.handle_first.new.self) =
    at_least c.args.limit s e c.if-not-copy_least.ensures.least early
    ∙ (ap (λ (t : Shard). handling c.args.limit t e.dst) (sym (c.count_tick.ensures ∙ c.copy_least.ensures.same)) ∙ c.in_ok-handle_first.ensures.ok c.args.limit early) in
    ((λ h. absurd (cc h)), (λ h. absurd (cc (done, h))))

pub returns-in_err-handle_first-clause-refused : goal.returns-in_err-handle_first-clause-refused
returns-in_err-handle_first-clause-refused c = λ f.
    let s = c.args.self.now in
    let e = c.copy_least.new.event in
    let early = c.if-not-copy_least.ensures.before in
    let is : handling_least c.args.limit s ≡ handling c.args.limit c.count_tick.new.self e.dst =
    at_least c.args.limit s e c.if-not-copy_least.ensures.least early ∙ ap (λ (t : Shard). handling c.args.limit t e.dst) (sym (c.count_tick.ensures ∙ c.copy_least.ensures.same)) in
    let p = err_from_is_err_and c.from_residual.result c.from_residual.ensures.1 in
    let told = c.in_err-handle_first.ensures.refused c.args.limit early f in (
      (λ h. let same : p.0 ≡ or_memory.Fault f = cc (p.1, h) in is ∙ told.0 (ap (λ x. Err x) (sym p.2 ∙ same))),
      (λ h. let at = told.1 (sym is ∙ h) in let same : p.0 ≡ or_memory.Fault f = cc (p.2, at) in p.1 ∙ ap (λ x. Err x) same),
    )
