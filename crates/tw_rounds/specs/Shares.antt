-- A share of the processes of a run: those that one thread has in a round (own, after Jefferson, Virtual Time, 1985).
use Rattle.std.specs.Prelude.{ℕ, ◌-◌, ◌≡◌, ◌≤◌, List, [], Some, ◌++◌, length, map, slice_get}
use Rattle.std.specs.declared.cmp.Ordering.{Ordering}
use Rattle.tw_process.specs.Behaviour.{Behaviour, simulation_of}
use Rattle.tw_process.specs.Parts.{Parts}
use Rattle.tw_rounds.specs.Members.{Mailed, place_of}
use Rattle.tw_rounds.specs.Ruled.{AreRuled}
use Rattle.tw_rounds.specs.declared.sent.Sent.{Sent}
use Rattle.tw_rounds.specs.declared.turning.Round.{Round}
use Rattle.tw_rule.specs.Place.{NoneLooseBefore}
use Rattle.tw_sim.specs.declared.machine.Signed.{Signed}
use Rattle.tw_sim.specs.Simulation.{IsLawful}

-- what a share has sent and is on its way
abbrev pub on_way : {E : Type 0} → Sent E → List (Signed E)
on_way sent = sent.far.items ++ sent.near.items

-- x stands last in a list
abbrev pub IsLast : {X : Type 0} → X → List X → Type 0
IsLast x xs = slice_get xs (length xs - 1) ≡ Some x

module _ {S M E : Type 0} (parts : Parts E) (cmp : E → E → Ordering) (behaviour : M → Behaviour S E) (round : Round) (start : ℕ) where
  -- the rule holds of a whole run to the round's stop and with its bound, in which these processes stand from the number start on,
  -- between others, and these messages are on their way, behind others
  abbrev pub RuledAmong : M → List (Mailed M E) → List (Mailed M E) → List (Signed E) → List (Mailed M E) → List (Signed E) → Type 0
  RuledAmong model front back others xs sent =
      AreRuled (simulation_of parts cmp (behaviour model)) model round.stop round.bound (others ++ sent) (front ++ xs ++ back)

  -- these processes are a share of a run for which the rule holds, and these messages of it are on their way
  pub record IsShare (xs : List (Mailed M E)) (sent : List (Signed E)) : Type 0 where
    pub model : M
    pub front : List (Mailed M E)
    pub back : List (Mailed M E)
    pub others : List (Signed E)
    pub from : length front ≡ start
    -- nothing is handled at or after the stop, which is not after the model's latest time
    pub limit : round.limit ≤ round.stop
    pub early : round.stop ≤ (behaviour model).latest
    pub ruled : RuledAmong model front back others xs sent

  -- where the rule held of a run with this share it holds with what that became, and what is on its way then, whatever stands beside them
  abbrev pub KeepsRule : List (Mailed M E) → List (Signed E) → List (Mailed M E) → List (Signed E) → Type 0
  KeepsRule xs sent ys more =
      (model : M) (front back : List (Mailed M E)) (others : List (Signed E)) → length front ≡ start → RuledAmong model front back others xs sent → RuledAmong model front back others ys more

  -- and no process has put anything aside that it has to send on
  pub record GoesOn (xs : List (Mailed M E)) (sent : List (Signed E)) (ys : List (Mailed M E)) (more : List (Signed E)) : Type 0 where
    pub outboxes : map (λ x. x.outbox) ys ≡ map (λ x. x.outbox) xs
    pub rule : KeepsRule xs sent ys more

module _ {S M E : Type 0} (parts : Parts E) (cmp : E → E → Ordering) (behaviour : M → Behaviour S E) where
  -- the first of some processes tells a time before which nothing is loose at any of them
  abbrev pub TellsLeast : List (Mailed M E) → Type 0
  TellsLeast xs =
      (first : Mailed M E) → slice_get xs 0 ≡ Some first
      → (i : ℕ) (x : Mailed M E) → slice_get xs i ≡ Some x → let m = simulation_of parts cmp (behaviour x.process.model) in
      IsLawful m → NoneLooseBefore m first.least (place_of x)

  -- what a share has done in its turn: the rule is kept, and its first process tells the least time
  pub record HasTurned (round : Round) (start : ℕ) (xs ys : List (Mailed M E)) : Type 0 where
    pub rule : KeepsRule parts cmp behaviour round start xs [] ys []
    pub told : TellsLeast ys
