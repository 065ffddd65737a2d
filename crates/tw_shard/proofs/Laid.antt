-- A shard whose timelines follow from the numbers of its routers.
use Rattle.std.proofs.Common.{◌≡◌, ℕ, zero, suc, ◌<◌, ◌≤◌, true, List, [], ◌∷◌, ap, sym, ◌∙◌, subst, arith}
use Rattle.std.proofs.Common.{Some, get_or, length, map, slice_get}
use Rattle.std.specs.List.{AllByRecursion}
use Rattle.std.proofs.lemmas.List.{length-map}
use Rattle.tw_event.specs.declared.event.Event.{Event}
use Rattle.tw_event.specs.Order.{event_before, event_same}
use Rattle.tw_model.specs.Case.{IsCase}
use Rattle.tw_model.specs.Effect.{suits}
use Rattle.tw_shard.specs.Inside.{HasHandledTo}
use Rattle.tw_shard.specs.Roster.{StandOnce, StandsInList}
use Rattle.tw_shard.specs.Shard.{IsSoundShard, Shard, no_timeline, owns, place, routers, timeline}
use Rattle.tw_shard.proofs.Rosters.{stands}
use Rattle.tw_shard.proofs.Shares.{listed}
use Rattle.tw_shard.specs.Timeline.{Timeline, history}
use Rattle.tw_sim.specs.Rising.{IsRising}

-- what is read of an element that stands there
read_there : {A B : Type 0} (f : A → B) (xs : List A) (k : ℕ) (x : A) (d : B) → slice_get xs k ≡ Some x → (k < length (map f xs)) × (get_or (map f xs) k d ≡ f x)
read_there f [] k x d there = cc there
read_there f (y ∷ xs) zero x d there = (omega arith, (let same : y ≡ x = cc there in ap f same))
read_there f (y ∷ xs) (suc k) x d there = let more = read_there f xs k x d there in (let within = more.0 in omega arith, more.1)

-- a timeline that router r of a shard may have
pub record IsLine (s : Shard) (r : ℕ) (t : Timeline) : Type 0 where
  pub net : t.net ≡ s.terms.case.net
  pub node : t.node ≡ r
  pub done : t.done ≤ s.bound
  pub case : t.case ≡ s.terms.case
  pub retains : t.retains ≡ s.terms.retains

-- each router of a shard has the timeline of its number, and nothing is held
pub record IsLaid (line : ℕ → Timeline) (s : Shard) : Type 0 where
  pub case : IsCase s.terms.case
  pub worker : s.terms.worker < s.terms.workers
  pub known : (k r : ℕ) → StandsInList s.routers k r → r < s.terms.case.net.nodes
  pub apart : StandOnce s.routers
  pub timelines : s.timelines ≡ map line s.routers
  pub lines : (r : ℕ) → IsLine s r (line r)
  pub pending : AllByRecursion (λ e. suits s.terms.case.net e.dst e ≡ true) s.pending
  pub held : s.held ≡ []

module _ (line : ℕ → Timeline) (s : Shard) (is : IsLaid line s) where
  -- there is a place for each of its routers, with its timeline
  there : (r : ℕ) → owns s r ≡ true → (place s r < length s.timelines) × (timeline s r ≡ line r)
  there r mine =
      subst (λ ts. (place s r < length ts) × (get_or ts (place s r) no_timeline ≡ line r)) (sym is.timelines)
      (read_there line (routers s) (place s r) r no_timeline (listed s r mine))

  pub laid : (r : ℕ) → owns s r ≡ true → timeline s r ≡ line r
  laid r mine = (there r mine).1

  pub whole_laid : IsSoundShard s
  whole_laid = record {
    case = is.case;
    worker = is.worker;
    apart = is.apart;
    long = ap (λ ts. length ts) is.timelines ∙ length-map s.routers line;
    routers = λ r mine.
        let at = is.lines r in
        let same = laid r mine in
        record {
          known = is.known (place s r) r (stands s.routers r mine);
          within = (there r mine).0;
          net = ap (λ t. t.net) same ∙ at.net;
          node = ap (λ t. t.node) same ∙ at.node;
          done = let done = ap (λ t. t.done) same in let early = at.done in omega arith;
          case = ap (λ t. t.case) same ∙ at.case;
          retains = ap (λ t. t.retains) same ∙ at.retains;
        };
    pending = is.pending;
    held = subst (IsRising event_before event_same) (sym is.held) tt;
  }

  -- what its routers have handled is not after a time, where that of each number isn't
  pub latest_laid : (time : ℕ) → ((r : ℕ) → AllByRecursion (λ (e : Event). e.time ≤ time) (history (line r))) → HasHandledTo time s
  latest_laid time early r mine = subst (λ (t : Timeline). AllByRecursion (λ (e : Event). e.time ≤ time) (history t)) (sym (laid r mine)) (early r)
