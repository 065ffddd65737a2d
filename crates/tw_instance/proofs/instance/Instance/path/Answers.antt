use Rattle.std.proofs.Common.{◌≡◌, ◌<◌, ℕ, ◌-◌, suc, length, slice_index_or, sym, arith, ap, ◌∙◌, subst, refl}
use Rattle.std.proofs.lemmas.List.{length-map}
use Rattle.tw_model.specs.declared.net.PermittedPath.{PermittedPath}
use Rattle.tw_model.specs.Net.{Net, empty_path}
use Rattle.tw_model.specs.Rules.{IsNet}
use Rattle.tw_model.proofs.Paths.{path_exact}
use Rattle.tw_instance.proofs.Paths.{path-empty, path-origin, path-given, index-map}
use Rattle.tw_instance.proofs.instance.Instance.path.Goals as goal

pub returns-in-0-clause-value : goal.returns-in-0-clause-value
returns-in-0-clause-value c = sym (path-empty _ _ c.in-0.is)

pub returns-in-1-clause-value : goal.returns-in-1-clause-value
returns-in-1-clause-value c = sym (path-origin _ _ c.in-1.is)

pub returns-in_default-clause-value : goal.returns-in_default-clause-value
returns-in_default-clause-value c =
    let n : ℕ = c.args.number.0 in
    let net = c.args.self.now in
    let e : c.args.number.0 ≡ suc (suc (c.args.number.0 - 2)) = omega arith in
    let h : n - 2 < length net.permitted = omega (arith, length-map net.permitted (λ l. l.nodes)) in
    let kept = ap (λ (m : Net). (slice_index_or m.permitted (n - 2) c.index.result.now).nodes) c.self.view_is in
    c.deref.ensures.value
    ∙ (ap (λ (l : PermittedPath). l.nodes) (c.behind-self.view_is ∙ c.index.ensures)
    ∙ (kept ∙ (sym (index-map net.permitted (n - 2) c.index.result.now h) ∙ sym (path-given net c.args.number (n - 2) e))))

pub returns-in_default-clause-empty : goal.returns-in_default-clause-empty
returns-in_default-clause-empty c e =
    let apart = path_exact c.args.self.now (subst IsNet c.self.view_is c.self.invariant.net) in
    apart c.args.number empty_path (omega arith) (omega arith) (sym (returns-in_default-clause-value c) ∙ (e ∙ sym (path-empty c.args.self.now empty_path refl)))
