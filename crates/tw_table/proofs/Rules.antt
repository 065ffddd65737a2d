-- The rule over shares: they may stand in any order, and one of them is given.
use Rattle.std.proofs.Common.{◌≡◌, ℕ, suc, ◌+◌, ◌<◌, ◌≤◌, List, [], ◌∷◌, length, map, Some, slice_get, flat_map, refl, ap, sym, ◌∙◌, subst, inl, inr, arith}
use Rattle.std.proofs.lemmas.Bool.{cases_Bool, cases_lt}
use Rattle.std.specs.Prelude.{slice_index_or}
use Rattle.std.specs.List.{AllByRecursion}
use Rattle.tw_core.specs.Good.{times_there}
use Rattle.tw_core.specs.Parts.{times_wanted, total}
use Rattle.tw_event.specs.declared.event.Event.{Event}
use Rattle.tw_exchange.specs.Board.{Board, IsBoard, all_mail, who, worker_for}
use Rattle.tw_model.proofs.Lawful.{lawful, numbered}
use Rattle.tw_model.specs.Case.{Case, IsCase, simulation}
use Rattle.tw_rule.proofs.Gives.{rule_gives}
use Rattle.tw_rule.proofs.Places.{all_at, get_map}
use Rattle.tw_rule.proofs.Ruled.{before_of, good_of_rule, seq_of_rule}
use Rattle.tw_rule.specs.Board as rule
use Rattle.tw_rule.specs.Board.{times_among}
use Rattle.tw_rule.specs.Place.{IsRunBefore, Place, whole}
use Rattle.tw_rule.specs.Rule.{MayGive, Rule, Stands, is_at}
use Rattle.tw_sim.specs.declared.machine.Signed.{Signed}
use Rattle.tw_table.proofs.Lists.{all_append}
use Rattle.tw_table.proofs.Visiting.{among_rest}
use Rattle.tw_table.specs.Shares.{AreGoodTogether, IsRuled, MayBeGiven, Share, board_of, place_of}
use Rattle.tw_table.specs.Views.{IsVisitedBy}

-- the same shares, in another order
pub record AreSame (ss ts : List Share) : Type 1 where
  pub sums : (f : Share → ℕ) → total f ts ≡ total f ss
  pub each : (P : Share → Type 0) → AllByRecursion P ss → AllByRecursion P ts

total_map : {X Y : Type 0} (g : X → Y) (f : Y → ℕ) (xs : List X) → total f (map g xs) ≡ total (λ x. f (g x)) xs
total_map g f [] = refl
total_map g f (x ∷ xs) = ap (λ n. f (g x) + n) (total_map g f xs)

mapped : {X Y : Type 0} (g : X → Y) (P : Y → Type 0) (xs : List X) → AllByRecursion (λ x. P (g x)) xs → AllByRecursion P (map g xs)
mapped g P [] h = tt
mapped g P (x ∷ xs) h = (h.0, mapped g P xs h.1)

unmapped : {X Y : Type 0} (g : X → Y) (P : Y → Type 0) (xs : List X) → AllByRecursion P (map g xs) → AllByRecursion (λ x. P (g x)) xs
unmapped g P [] h = tt
unmapped g P (x ∷ xs) h = (h.0, unmapped g P xs h.1)

counted : (ss : List Share) → total (λ s. 1) ss ≡ length ss
counted [] = refl
counted (s ∷ ss) = let more = counted ss in omega arith

-- the sums over places
sums_of : (ss ts : List Share) → AreSame ss ts → (f : Place Event → ℕ) → total f (map place_of ts) ≡ total f (map place_of ss)
sums_of ss ts same f = total_map place_of f ts ∙ (same.sums (λ s. f (place_of s)) ∙ sym (total_map place_of f ss))

-- their order does not count
pub any_order : (case : Case) (x : Board) (ss ts : List Share) → AreSame ss ts → IsRuled case x ss → IsRuled case x ts
any_order case x ss ts same ruled =
    let m = simulation case in
    let old = ruled.rule in
    record {
      is_case = ruled.is_case;
      cases = same.each (λ s. s.shard.terms.case ≡ case) ruled.cases;
      count = sym (counted ts) ∙ (same.sums (λ s. 1) ∙ (counted ss ∙ ruled.count));
      rule = record {
        board = old.board;
        each = mapped place_of (Stands m (who x) (board_of x)) ts (same.each (λ s. Stands m (who x) (board_of x) (place_of s)) (unmapped place_of (Stands m (who x) (board_of x)) ss old.each));
        places = λ w h. sums_of ss ts same (is_at w) ∙ old.places w h;
        routers = old.routers;
        balance = λ e.
            let wanted = sums_of ss ts same (λ p. times_wanted m (whole 0 p) e) in
            let there = sums_of ss ts same (λ p. times_there m (whole 0 p) e) in
            let before = old.balance e in
            omega arith;
      };
    }

-- ---- what a worker may give, and the exchange that its visits have left

-- both, as the rule has them
pub record IsGiven (x : Board) (s : Share) (y : Board) (t : Share) : Type 0 where
  pub case : t.shard.terms.case ≡ s.shard.terms.case
  pub owners : y.owners ≡ x.owners
  pub give : MayGive (simulation s.shard.terms.case) (who x) (board_of x) (place_of s) (board_of y) (place_of t)

-- its own part
pub own_part : (x y : Board) (s t : Share) → t.shard.terms.case ≡ s.shard.terms.case → MayGive (simulation s.shard.terms.case) (who x) (board_of x) (place_of s) (board_of y) (place_of t)
    → MayBeGiven x s y t
own_part x y s t same give = record {
  case = same;
  worker = give.worker;
  stands = give.stands;
  moved = give.moved;
  suit = λ e more. give.steps.board.suit e (omega arith);
  done = give.done;
}

-- what holds of the mail of each worker holds of all mail
all_of_mail : (P : Signed Event → Type 0) (mail : List (List (Signed Event))) → ((w : ℕ) → AllByRecursion P (slice_index_or mail w [])) → AllByRecursion P (flat_map (λ m. m) mail)
all_of_mail P [] h = tt
all_of_mail P (m ∷ mail) h = all_append P m (flat_map (λ n. n) mail) (h 0) (all_of_mail P mail (λ w. h (suc w)))

-- and none of it is before the bound
none_before : (case : Case) (is : IsCase case) (e : Event) (b : ℕ) (xs : List (Signed Event)) → AllByRecursion (λ m. b ≤ m.event.time) xs → 0 < times_among (simulation case) e xs
    → b ≤ e.time
none_before case is e b [] h some = absurd (omega arith)
none_before case is e b (x ∷ xs) h some =
    elim (cases_Bool ((simulation case).same e x.event)) [
      | inl same ↦ subst (λ (y : Event). b ≤ y.time) (sym ((lawful case is).same_is e x.event same)) h.0
      | inr other ↦ none_before case is e b xs h.1 (among_rest case is e x xs other some)
    ]

-- the whole of it, from its own part and what its visits have left
pub with_visits : (x y : Board) (s t : Share) → IsCase s.shard.terms.case → rule.IsBoard (simulation s.shard.terms.case) (board_of x) → IsBoard y → IsVisitedBy s.shard.terms.worker x y
    → MayBeGiven x s y t → IsGiven x s y t
with_visits x y s t is board whole visited may = record {
  case = may.case;
  owners = visited.owners;
  give = record {
    worker = may.worker;
    steps = record {
      others = visited.others;
      workers = visited.workers;
      bound = visited.bound;
      stop = visited.stop;
      board = record {
        stop = whole.stop;
        reported = whole.reported;
        late = λ e some. none_before s.shard.terms.case is e y.bound (all_mail y) (all_of_mail (λ m. y.bound ≤ m.event.time) y.mail whole.late) some;
        suit = λ e some. elim (cases_lt (times_among (simulation s.shard.terms.case) e (all_mail x)) (times_among (simulation s.shard.terms.case) e (all_mail y))) [
          | inl more ↦ may.suit e more
          | inr none ↦ board.suit e (omega arith)
        ];
      };
    };
    stands = may.stands;
    moved = may.moved;
    done = may.done;
  };
}

-- one of the workers gives back what it may
pub given_one : (case : Case) (x y : Board) (s t : Share) (others : List Share) → IsRuled case x (s ∷ others) → IsGiven x s y t → IsRuled case y (t ∷ others)
given_one case x y s t others ruled may =
    let m = simulation case in
    let give : MayGive m (who x) (board_of x) (place_of s) (board_of y) (place_of t)
    = subst (λ (c : Case). MayGive (simulation c) (who x) (board_of x) (place_of s) (board_of y) (place_of t)) ruled.cases.0 may.give in
    record {
      is_case = ruled.is_case;
      cases = (may.case ∙ ruled.cases.0, ruled.cases.1);
      count = ruled.count ∙ sym give.steps.workers;
      rule = subst (λ (f : ℕ → ℕ). Rule m f (board_of y) (map place_of (t ∷ others))) (sym (λ i. worker_for (may.owners i) (give.steps.workers i)))
          (rule_gives m (who x) (board_of x) (board_of y) (map place_of (s ∷ others)) 0 (place_of s) (place_of t) ruled.rule refl give);
    }

-- the workers' shares with the exchange are a good state
pub whole_of : (case : Case) (x : Board) (shares : List Share) → IsRuled case x shares → AreGoodTogether x shares
whole_of case x shares ruled = record {
  case = case;
  ruled = ruled;
  good = good_of_rule (simulation case) (lawful case ruled.is_case) (who x) (board_of x) (map place_of shares) ruled.rule;
  seq = seq_of_rule (simulation case) (lawful case ruled.is_case) (who x) (numbered case ruled.is_case) (board_of x) (map place_of shares) ruled.rule;
}

-- before the bound of the exchange, and each earlier time, what a worker's routers have handled is the one-thread run
pub run_before : (case : Case) (x : Board) (shares : List Share) (i t : ℕ) (s : Share) → IsRuled case x shares → slice_get shares i ≡ Some s → t ≤ x.bound
    → IsRunBefore (simulation s.shard.terms.case) t (place_of s)
run_before case x shares i t s ruled there le =
    let same : s.shard.terms.case ≡ case = all_at (λ (z : Share). z.shard.terms.case ≡ case) shares i s there ruled.cases in
    subst (λ (c : Case). IsRunBefore (simulation c) t (place_of s)) (sym same)
    (before_of (simulation case) (lawful case ruled.is_case) (who x) (numbered case ruled.is_case) (board_of x) (map place_of shares) i t (place_of s) ruled.rule
    (get_map place_of shares i s there) le)
