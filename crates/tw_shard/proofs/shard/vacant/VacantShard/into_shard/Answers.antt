use Rattle.std.proofs.Common.{◌≡◌, ◌==◌, ℕ, [], filter, length, map, ap, ◌∙◌, subst, sym, refl}
use Rattle.std.specs.List.{range_with_len}
use Rattle.tw_shard.specs.Cut.{IsShardAt, timeline_at}
use Rattle.tw_shard.specs.Parts.{quiet_shard}
use Rattle.tw_shard.specs.Shard.{Shard}
use Rattle.tw_shard.specs.Vacant.{IsVacant, Vacant, vacant_of}
use Rattle.tw_shard.specs.declared.shard.vacant.VacantShard.TheInside.{Inside}
use Rattle.tw_shard.proofs.Cuts.{IsAt, all_come, latest_at, shard_at, whole_at}
use Rattle.tw_shard.proofs.shard.vacant.VacantShard.into_shard.Goals as goal

-- the shard that the parts make
abbrev parts : Inside → Shard
parts a =
    quiet_shard (record { case = a.case.now; worker = a.worker; workers = a.workers; retains = a.retains; cancel = a.cancel }) a.time a.roster.routers a.timelines.items a.pending.events a.kept.events

is_at : (a : Inside) (v : Vacant) → IsVacant a → vacant_of a ≡ v → v.missing ≡ [] → IsAt a.time (parts a)
is_at a v is same none =
    let come = ap (λ (v : Vacant). v.missing) same ∙ none in
    record {
      case = is.case;
      worker = is.worker;
      known = is.known;
      apart = is.apart;
      timelines = is.timelines ∙ ap (map (timeline_at a.case.now a.retains a.time)) (all_come (length a.timelines.items) a.roster.routers come);
      pending = is.pending;
      kept = is.kept;
      outgoing = refl;
      held = refl;
      bound = refl;
    }

pub of_parts-requires : goal.of_parts-requires
of_parts-requires c =
    let a = c.self.inside in
    let is = c.self.invariant in
    let at = is_at a c.args.self is c.self.view_is c.requires in
    record {
      whole = whole_at a.time (parts a) at;
      latest = latest_at a.time (parts a) at c.saturating_sub-latest.result c.saturating_sub-latest.ensures;
      count = is.roster;
      waiting = is.waiting;
      keeping = is.keeping;
    }

pub returns-clause-at : goal.returns-clause-at
returns-clause-at c =
    let a = c.self.inside in
    subst (λ (v : Vacant). (who : ℕ → ℕ) → v.routers ≡ filter (λ r. who r == v.worker) (range_with_len 0 v.case.net.nodes) → IsShardAt v.case who v.time v.worker v.retains v.cancel c.of_parts.result)
    c.self.view_is (subst (λ (s : Shard). (who : ℕ → ℕ) → a.roster.routers ≡ filter (λ r. who r == a.worker) (range_with_len 0 a.case.now.net.nodes) → IsShardAt a.case.now who a.time a.worker a.retains a.cancel s)
    (sym c.of_parts.ensures) (shard_at a.time (parts a) (is_at a c.args.self c.self.invariant c.self.view_is c.requires)))

pub returns-clause-order : goal.returns-clause-order
returns-clause-order c = ap (λ (s : Shard). s.routers) c.of_parts.ensures ∙ ap (λ (v : Vacant). v.routers) c.self.view_is

pub returns-clause-workers : goal.returns-clause-workers
returns-clause-workers c = ap (λ (s : Shard). s.terms.workers) c.of_parts.ensures ∙ ap (λ (v : Vacant). v.workers) c.self.view_is
