use Rattle.std.proofs.Common.{◌≡◌, ◌↔◌, Err, sym, subst}
use Rattle.std.specs.Prelude.{IsErrOf}
use Rattle.tw_core.specs.Steps.{step}
use Rattle.tw_model.specs.Case.{simulation}
use Rattle.tw_model.specs.declared.memory.OrMemory.TheVariants as or_memory
use Rattle.tw_warp.specs.Warp.{TakesNone, warp_core}
use Rattle.tw_warp.proofs.warp.Warp.step.Goals as goal

pub returns-in-Handle-clause-refused : goal.returns-in-Handle-clause-refused
returns-in-Handle-clause-refused c = λ f.
    subst (λ x. IsErrOf c.at_router.result (or_memory.Fault f) ↔ (step (simulation c.args.self.now.case) (warp_core c.args.self.now) x ≡ Err f)) (sym c.in-Handle.is)
    (c.at_router.ensures.refused f)

pub returns-in-Undo-clause-refused : goal.returns-in-Undo-clause-refused
returns-in-Undo-clause-refused c = λ f.
    subst (λ x. IsErrOf c.at_router-in-Undo.result (or_memory.Fault f) ↔ (step (simulation c.args.self.now.case) (warp_core c.args.self.now) x ≡ Err f)) (sym c.in-Undo.is)
    (c.at_router-in-Undo.ensures.refused f)

pub returns-in-Deliver-clause-refused : goal.returns-in-Deliver-clause-refused
returns-in-Deliver-clause-refused c = λ f.
    subst (λ x. IsErrOf c.deliver.result (or_memory.Fault f) ↔ (step (simulation c.args.self.now.case) (warp_core c.args.self.now) x ≡ Err f)) (sym c.in-Deliver.is)
    (c.deliver.ensures.refused f)

pub returns-in-Commit-clause-refused : goal.returns-in-Commit-clause-refused
returns-in-Commit-clause-refused c = λ f.
    subst (λ x. IsErrOf c.at_router-in-Commit.result (or_memory.Fault f) ↔ (step (simulation c.args.self.now.case) (warp_core c.args.self.now) x ≡ Err f)) (sym c.in-Commit.is)
    (c.at_router-in-Commit.ensures.refused f)

pub returns-in-Release-clause-refused : goal.returns-in-Release-clause-refused
returns-in-Release-clause-refused c = λ f.
    subst (λ x. IsErrOf c.at_router-in-Release.result (or_memory.Fault f) ↔ (step (simulation c.args.self.now.case) (warp_core c.args.self.now) x ≡ Err f)) (sym c.in-Release.is)
    (c.at_router-in-Release.ensures.refused f)

pub returns-in-Handle-clause-free : goal.returns-in-Handle-clause-free
returns-in-Handle-clause-free c = λ none told. absurd (subst (λ x. TakesNone (simulation c.args.self.now.case) x (warp_core c.args.self.now)) c.in-Handle.is none)

pub returns-in-Undo-clause-free : goal.returns-in-Undo-clause-free
returns-in-Undo-clause-free c = λ none told. absurd (subst (λ x. TakesNone (simulation c.args.self.now.case) x (warp_core c.args.self.now)) c.in-Undo.is none)

pub returns-in-Deliver-clause-free : goal.returns-in-Deliver-clause-free
returns-in-Deliver-clause-free c = λ none told. absurd (subst (λ x. TakesNone (simulation c.args.self.now.case) x (warp_core c.args.self.now)) c.in-Deliver.is none)

pub returns-in-Commit-clause-free : goal.returns-in-Commit-clause-free
returns-in-Commit-clause-free c = λ none told.
    c.at_router-in-Commit.ensures.free (subst (λ x. TakesNone (simulation c.args.self.now.case) x (warp_core c.args.self.now)) c.in-Commit.is none) told

pub returns-in-Release-clause-free : goal.returns-in-Release-clause-free
returns-in-Release-clause-free c = λ none told.
    c.at_router-in-Release.ensures.free (subst (λ x. TakesNone (simulation c.args.self.now.case) x (warp_core c.args.self.now)) c.in-Release.is none) told
