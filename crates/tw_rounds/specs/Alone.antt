-- Processes of which one thread alone handles the events, in the sequential run's own turns (own).
use Rattle.std.specs.Prelude.{ℕ, ◌+◌, ◌≡◌, ◌≤◌, ◌<◌, true, min, List, [], ◌∷◌, Some, length, slice_get}
use Rattle.tw_engine.specs.Past.{log_after}
use Rattle.tw_process.specs.declared.limits.TheConstants.{LATEST}
use Rattle.tw_rounds.specs.Members.{Mailed}
use Rattle.tw_sequential.specs.Run.{IsBegun, IsNext, Run, world}
use Rattle.tw_sim.specs.Seq.{insert_all, seq, turns}
use Rattle.tw_sim.specs.Simulation.{Simulation, IsLawful, IsNumbered, only, state, times}

module _ {S E : Type 0} (m : Simulation S E) where
  -- the time of the first of some events, or the stop where there is none before it
  abbrev pub first_time : ℕ → List E → ℕ
  first_time stop [] = stop
  first_time stop (e ∷ later) = min (m.time e) stop

  -- what waits for each process, where some events are dealt out to their receivers
  abbrev pub dealt : List E → ℕ → List E
  dealt events r = insert_all m (only m r events) []

module _ {M S E : Type 0} (m : Simulation S E) where
  -- a run to a stop that has come to a time and so many turns behind it, with these events pending
  abbrev pub run_at : M → ℕ → ℕ → ℕ → List E → Run M E
  run_at model stop since n pending = record { model = model; stop = stop; log = log_after m since n; rest = pending }

  -- what was handled before this time stays, and all that is pending is not before it
  abbrev pub bound_of : Run M E → ℕ
  bound_of run = first_time m run.stop run.rest

  -- handling the least pending event, which is before the stop, would pass the limit of a counter of the model's
  abbrev pub IsFullNext : Run M E → Type 0
  IsFullNext run = (e : E) × IsNext m run e × (m.full (state m (m.dst e) (only m (m.dst e) run.log)) e ≡ true)

  -- process r of a run: all that it has handled is committed, and nothing that it has sent is left with it
  pub record IsCommitted (run : Run M E) (r : ℕ) (x : Mailed M E) : Type 0 where
    pub model : x.process.model ≡ run.model
    pub number : x.process.number ≡ r
    pub ahead : x.process.ahead ≡ []
    pub past : x.process.past ≡ only m r run.log
    pub kept : x.process.kept ≡ []
    pub flight : x.process.flight ≡ []
    pub mail : x.mail ≡ []
    pub outbox : x.outbox ≡ []
    -- what it has handled was before its latest commit, and that and the bound that it knows are not beyond the stop
    pub early : (e : E) → 0 < times m e x.process.past → m.time e < x.process.done
    pub done : x.process.done ≤ run.stop
    pub bound : x.process.bound ≤ run.stop

  -- each process of a run, with what waits for it
  pub record AreCommitted (run : Run M E) (waits : ℕ → List E) (members : List (Mailed M E)) : Type 0 where
    pub count : length members ≡ m.routers
    pub each : (r : ℕ) (x : Mailed M E) → slice_get members r ≡ Some x → IsCommitted run r x × (x.process.pending ≡ waits r)

  -- what holds of a run by one thread alone that has come to a time and so many turns behind it
  pub record IsAlone (run : Run M E) (since n : ℕ) : Type 0 where
    pub law : IsLawful m
    pub numbered : IsNumbered m
    -- its events are those of the sequential run on the way to its stop, of which none is beyond the time that it has come to
    pub begun : IsBegun m run
    pub reached : IsBegun m (record run { stop = since + 1 })
    pub after : turns m n LATEST (seq m since) ≡ world m run
    pub late : (e : E) → 0 < times m e run.rest → since ≤ m.time e
    pub within : since ≤ run.stop
    pub stop : run.stop ≤ LATEST
