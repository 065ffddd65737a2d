-- A run that goes on in pieces goes on as in one.
use Rattle.std.proofs.Common.{◌≡◌, ℕ, ◌+◌, ◌≤◌, max, refl, ap, sym, subst, ◌∙◌, arith}
use Rattle.tw_event.specs.declared.event.Event.{Event}
use Rattle.tw_model.specs.Case.{Case, simulation}
use Rattle.tw_sim.specs.Seq.{turns}
use Rattle.tw_sim.proofs.Seq.{turns-add, turns_later}
use Rattle.tw_seq.specs.Run.{Continues, Run, complete_run, world}

-- on the way from where it first was to a stop, a run is here
pub record IsOnTheWay (stop : ℕ) (first now : Run) : Type 0 where
  pub case : now.case ≡ first.case
  pub late : first.stop ≤ now.stop
  pub early : now.stop ≤ max first.stop stop
  pub reached : (n : ℕ) × (turns (simulation first.case) n (max first.stop stop) (world first) ≡ world now)

pub way_begins : (stop : ℕ) (first : Run) → IsOnTheWay stop first first
way_begins stop first = record { case = refl; late = omega arith; early = omega arith; reached = (0, refl) }

-- one piece more, which ends on the way
pub way_goes_on : (stop end : ℕ) (first now next : Run) → IsOnTheWay stop first now → end ≤ stop → next.case ≡ now.case → next.stop ≡ max now.stop end
    → Continues now next → IsOnTheWay stop first next
way_goes_on stop end first now next way within case to on =
    let m = simulation first.case in
    let all = max first.stop stop in
    let early : next.stop ≤ all = (let e = way.early in omega arith) in
    let own : turns m on.0 next.stop (world now) ≡ world next = subst (λ (k : Case). turns (simulation k) on.0 next.stop (world now) ≡ world next) way.case on.1 in
    let more = turns_later m on.0 next.stop all (world now) early in
    record {
      case = case ∙ way.case;
      late = (let l = way.late in omega arith);
      early = early;
      reached = (
        way.reached.0 + more.0,
        sym (turns-add m way.reached.0 more.0 all (world first)) ∙ (ap (turns m more.0 all) way.reached.1 ∙ (more.1 ∙ own)),
      );
    }

-- the stop of the last piece is that of the whole
pub way_stop : (stop : ℕ) (first now : Run) → IsOnTheWay stop first now → max now.stop stop ≡ max first.stop stop
way_stop stop first now way = let l = way.late in let e = way.early in omega arith

-- and the whole has gone on from where it first was
pub way_ends : (stop : ℕ) (first now next : Run) → IsOnTheWay stop first now → next.case ≡ now.case → next.stop ≡ max now.stop stop → Continues now next
    → Continues first next
way_ends stop first now next way case to on =
    let whole = way_goes_on stop stop first now next way (omega arith) case to on in
    let all : max first.stop stop ≡ next.stop = sym (to ∙ way_stop stop first now way) in
    subst (λ t. (n : ℕ) × (turns (simulation first.case) n t (world first) ≡ world next)) all whole.reached

pub way_completes : (stop : ℕ) (first now next : Run) → IsOnTheWay stop first now → next ≡ complete_run now.case (max now.stop stop)
    → next ≡ complete_run first.case (max first.stop stop)
way_completes stop first now next way is = is ∙ λ i. complete_run (way.case i) (way_stop stop first now way i)
