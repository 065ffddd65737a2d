-- Either way of going on takes over what the other has brought to its stop, a cut of the sequential run.
use Rattle.std.proofs.Common.{◌≡◌, ℕ, zero, suc, ◌+◌, ◌<◌, ◌≤◌, ◌==◌, Bool, true, List, [], ◌∷◌, ◌++◌, Some, flat_map, length, map, nat_lt, replicate, slice_get, refl, ap, sym, ◌∙◌, subst, inl, inr, arith}
use Rattle.std.proofs.lemmas.Bool.{cases_Bool, eq-eqb, eqb-true, ltb-true}
use Rattle.std.proofs.lemmas.List.{length-map}
use Rattle.std.specs.List.{AllByRecursion, filter}
use Rattle.tw_core.proofs.Parts.{times-flat_map}
use Rattle.tw_core.specs.Parts.{Part, total}
use Rattle.tw_core.specs.Run.{IsAtEnd}
use Rattle.tw_engine.specs.Process.{history}
use Rattle.tw_process.specs.declared.limits.TheConstants.{LATEST}
use Rattle.tw_rounds.proofs.Lists.{within}
use Rattle.tw_rounds.proofs.Lone.{none_first}
use Rattle.tw_rounds.proofs.Rules.{self}
use Rattle.tw_rounds.proofs.Stages.{stands_at}
use Rattle.tw_rounds.specs.Alone.{AreCommitted, IsAlone, IsCommitted, bound_of, dealt, first_time, run_at}
use Rattle.tw_rounds.specs.Members.{IsSettled, Mailed, place_of}
use Rattle.tw_rounds.specs.Ruled.{AreRuled, board_of}
use Rattle.tw_rule.proofs.Cuts.{rule_at_cut}
use Rattle.tw_rule.proofs.Places.{all_at, get_map, total_map}
use Rattle.tw_rule.proofs.Ruled.{end_of_rule, handled_of}
use Rattle.tw_rule.specs.Cut.{AreCutPlaces, HasOwn}
use Rattle.tw_rule.specs.Place.{in_hand, part_of}
use Rattle.tw_rule.specs.Rule.{assembled}
use Rattle.tw_sequential.proofs.Running.{begun_later}
use Rattle.tw_sequential.specs.Run.{IsBegun, NoneBefore, complete_run, world}
use Rattle.tw_sim.proofs.Closed.{rest_late}
use Rattle.tw_sim.proofs.Counts.{in_filter, in_head, times-filter-no, times-filter-yes, times-insert_all}
use Rattle.tw_sim.proofs.Rising.{rising-insert_all, same_rising}
use Rattle.tw_sim.proofs.Unique.{all_below}
use Rattle.tw_sim.specs.Seq.{begin, finished, insert_all, log, rest, seq, turns, weight}
use Rattle.tw_sim.specs.Simulation.{Simulation, IsLawful, IsNumbered, below, only, times}

-- where two lists make none, each is none
front : {A : Type 0} (xs ys : List A) → xs ++ ys ≡ [] → xs ≡ []
front [] ys h = refl
front (x ∷ xs) ys h = cc

back : {A : Type 0} (xs ys : List A) → xs ++ ys ≡ [] → ys ≡ []
back [] ys h = h
back (x ∷ xs) ys h = cc

-- what waits for the process at a place
waits_in : {M E : Type 0} → List (Mailed M E) → ℕ → List E
waits_in [] r = []
waits_in (x ∷ xs) zero = x.process.pending
waits_in (x ∷ xs) (suc r) = waits_in xs r

waits_at : {M E : Type 0} (xs : List (Mailed M E)) (r : ℕ) (x : Mailed M E) → slice_get xs r ≡ Some x → waits_in xs r ≡ x.process.pending
unfolding waits_in
waits_at [] r x at = cc
waits_at (y ∷ ys) zero x at = (let same : y ≡ x = cc in ap (λ z. z.process.pending) same)
waits_at (y ∷ ys) (suc r) x at = waits_at ys r x at

-- a list without items
pub nothing : {A : Type 0} (xs : List A) → length xs ≡ 0 → xs ≡ []
nothing [] h = refl
nothing (x ∷ xs) h = absurd (omega (arith, h))

-- where each is settled, all are
pub all_settled : {M E : Type 0} (xs : List (Mailed M E)) → ((i : ℕ) (x : Mailed M E) → slice_get xs i ≡ Some x → IsSettled x) → AllByRecursion IsSettled xs
all_settled [] each = tt
all_settled (x ∷ xs) each = (each 0 x refl, all_settled xs (λ i y at. each (suc i) y at))

-- a test that as many pass as there are passes each
all_pass : {E : Type 0} (p : E → Bool) (xs : List E) → length (filter p xs) ≤ length xs
all_pass p [] = omega arith
all_pass p (x ∷ xs) = let more = all_pass p xs in elim (cases_Bool (p x)) [ inl b ↦ rw b (omega arith) | inr b ↦ rw b (omega arith) ]

each_passes : {E : Type 0} (p : E → Bool) (xs : List E) → length xs ≡ length (filter p xs) → filter p xs ≡ xs
each_passes p [] h = refl
each_passes p (x ∷ xs) h = elim (cases_Bool (p x)) [
  | inl b ↦ (let k = rw b at h in rw b (ap (λ l. x ∷ l) (each_passes p xs (omega (arith, k)))))
  | inr b ↦ (let k = rw b at h in let le = all_pass p xs in absurd (omega (arith, k, le)))
]

none_late : {S E : Type 0} (m : Simulation S E) → IsLawful m → (stop : ℕ) (xs : List E) → ((e : E) → 0 < times m e xs → stop ≤ m.time e) → NoneBefore m stop xs
none_late m law stop [] h = tt
none_late m law stop (x ∷ xs) h = h x (in_head m law x xs)

module _ {M S E : Type 0} (m : Simulation S E) (law : IsLawful m) (numbered : IsNumbered m) where
  -- ---- from alone to rounds

  module _ (model : M) (t : ℕ) (events : List E) (all : (e : E) → times m e events ≡ times m e (rest m t)) where
    cut_place : (w : ℕ) (x : Mailed M E) → IsCommitted m (complete_run m model t) w x → x.process.pending ≡ dealt m events w → x.process.bound ≡ t
        → HasOwn m (log m t) (rest m t) self t w (place_of x)
    cut_place w x is waits bound =
        let own : (r : ℕ) → (r == x.process.number) ≡ (r == w) = λ r. ap (λ k. r == k) is.number in
        record {
          worker = is.number;
          owns = λ r l. own r;
          history = λ r. elim (cases_Bool (r == w)) [
            | inl b ↦ (
                let there = own r ∙ b in
                let same : r ≡ w = eqb-true r w b in
                rw there (rw b (ap (λ l. l ++ x.process.past) is.ahead ∙ (is.past ∙ ap (λ k. only m k (log m t)) (sym same)))))
            | inr b ↦ (let there = own r ∙ b in rw there (rw b refl))
          ];
          pending = λ e. ap (times m e) waits ∙ (times-insert_all m e (only m w events) [] ∙ elim (cases_Bool (m.dst e == w)) [
            | inl b ↦ (let k = times-filter-yes m law (λ y. m.dst y == w) e events b in let same = all e in rw b (omega arith))
            | inr b ↦ (let k = times-filter-no m law (λ y. m.dst y == w) e events b in rw b (omega arith))
          ]);
          kept = is.kept;
          outgoing = is.flight;
          held = refl;
          done = λ r. elim (cases_Bool (r == x.process.number)) [
            | inl b ↦ rw b is.done
            | inr b ↦ rw b (omega arith)
          ];
          counted = λ r. elim (cases_Bool (r == x.process.number)) [
            | inl b ↦ rw b (sym (ap (λ l. length (below m x.process.done (l ++ x.process.past))) is.ahead ∙ ap length (all_below m law x.process.done x.process.past is.early)))
            | inr b ↦ rw b refl
          ];
          bound = bound;
          mail = is.mail;
          unsent = is.outbox;
        }

    cut_places : (w : ℕ) (xs : List (Mailed M E))
        → ((i : ℕ) (x : Mailed M E) → slice_get xs i ≡ Some x → IsCommitted m (complete_run m model t) (w + i) x × (x.process.pending ≡ dealt m events (w + i)) × (x.process.bound ≡ t))
        → AreCutPlaces m self t w (map place_of xs)
    cut_places w [] each = tt
    cut_places w (x ∷ xs) each = (
      (let h = each 0 x refl in cut_place w x (subst (λ k. IsCommitted m (complete_run m model t) k x) (omega arith) h.0) (h.1 ∙ ap (dealt m events) (omega arith)) h.2),
      cut_places (suc w) xs (λ i y at. (let h = each (suc i) y at in
          (subst (λ k. IsCommitted m (complete_run m model t) k y) (omega arith) h.0, h.1 ∙ ap (dealt m events) (omega arith), h.2))),
    )

    -- processes with what waits for each of them are ruled
    pub ruled_at_cut : (xs : List (Mailed M E)) → AreCommitted m (complete_run m model t) (dealt m events) xs → ((i : ℕ) (x : Mailed M E) → slice_get xs i ≡ Some x → t ≤ x.process.bound)
        → AreRuled m model t t [] xs
    ruled_at_cut xs are known = record {
      law = law;
      numbered = numbered;
      count = are.count;
      each = λ i x at. (let h = (are.each i x at).0 in (h.number, h.model));
      rule = rule_at_cut m law numbered self t (board_of (length xs) [] t t) (map place_of xs)
          (record { mail = refl; reports = ap (λ n. replicate n (Some t)) (sym (length-map xs place_of)); bound = refl; stop = omega arith })
          (cut_places 0 xs (λ i x at. (let h = are.each i x at in let le = h.0.bound in let ge = known i x at in
          (subst (λ k. IsCommitted m (complete_run m model t) k x) (omega arith) h.0, h.1 ∙ ap (dealt m events) (omega arith), omega (arith, le, ge)))))
          (λ r l. (let same = length-map xs place_of in let count = are.count in omega arith));
    }

  -- ---- from rounds to alone

  module _ (model : M) (stop : ℕ) (xs : List (Mailed M E)) (ruled : AreRuled m model stop stop [] xs) (settled : AllByRecursion IsSettled xs) where
    hands : (ys : List (Mailed M E)) → AllByRecursion IsSettled ys → AllByRecursion (λ p. in_hand p ≡ []) (map place_of ys)
    hands [] h = tt
    hands (y ∷ ys) h = ((λ i. (h.0.mail i ++ h.0.outbox i) ++ h.0.flight i), hands ys h.1)

    nothing_held : (ys : List (Mailed M E)) → AllByRecursion (λ p. p.held ≡ []) (map place_of ys)
    nothing_held [] = tt
    nothing_held (y ∷ ys) = (refl, nothing_held ys)

    at_end_here : IsAtEnd m (assembled (board_of (length xs) [] stop stop) (map place_of xs))
    at_end_here = end_of_rule m law self numbered (board_of (length xs) [] stop stop) (map place_of xs) ruled.rule refl (hands xs settled) (nothing_held xs) refl

    waiting_total : (e : E) → times m e (assembled (board_of (length xs) [] stop stop) (map place_of xs)).pending ≡ total (λ x. times m e x.process.pending) xs
    waiting_total e =
        times-flat_map m e (λ p. p.core.pending) (map (part_of stop) (map place_of xs))
        ∙ (total_map (λ (p : Part E). times m e p.core.pending) (part_of stop) (map place_of xs) ∙ total_map (λ p. times m e p.pending) place_of xs)

    -- what waits at all of them is what the run leaves
    pub all_left : (events : List E) → ((e : E) → times m e events ≡ total (λ x. times m e x.process.pending) xs) → insert_all m events [] ≡ rest m stop
    all_left events same =
        let C = assembled (board_of (length xs) [] stop stop) (map place_of xs) in
        same_rising m law (insert_all m events []) (insert_all m C.pending []) (rising-insert_all m law events [] tt) (rising-insert_all m law C.pending [] tt)
        (λ e. times-insert_all m e events [] ∙ (ap (λ n. n + 0) (same e ∙ sym (waiting_total e)) ∙ sym (times-insert_all m e C.pending [])))
        ∙ at_end_here.pending

    none_kept : (ys : List (Mailed M E)) → flat_map (λ (p : Part E). p.core.kept) (map (part_of stop) (map place_of ys)) ≡ [] → (i : ℕ) (x : Mailed M E) → slice_get ys i ≡ Some x → x.process.kept ≡ []
    none_kept [] h i x at = cc
    none_kept (y ∷ ys) h zero x at = (let same : y ≡ x = cc in ap (λ z. z.process.kept) (sym same) ∙ front y.process.kept _ h)
    none_kept (y ∷ ys) h (suc i) x at = none_kept ys (back y.process.kept _ h) i x at

    is_committed : (pending : List E) (r : ℕ) (x : Mailed M E) → slice_get xs r ≡ Some x → IsCommitted m (run_at m model stop stop 0 pending) r x
    is_committed pending r x at =
        let each = ruled.each r x at in
        let stands = stands_at m model stop stop [] xs ruled r x at in
        let is = all_at IsSettled xs r x at settled in
        let here : (r == x.process.number) ≡ true = eq-eqb r x.process.number (sym each.0) in
        let l : r < m.routers = (let a = within xs r x at in let count = ruled.count in omega (arith, a, count)) in
        let mine : (place_of x).history r ≡ history x.process = rw here refl in
        let whole = handled_of m law self numbered (board_of (length xs) [] stop stop) (map place_of xs) r r (place_of x) ruled.rule (get_map place_of xs r x at) l here refl in
        let past : x.process.past ≡ only m r (log m stop) = sym (ap (λ a. a ++ x.process.past) is.ahead) ∙ (sym mine ∙ whole) in
        let counted = stands.place.counted r in
        let kept_done : below m x.process.done x.process.past ≡ x.process.past =
        each_passes (λ e. nat_lt (m.time e) x.process.done) x.process.past
        ((let k = rw here at counted in k) ∙ ap (λ a. length (below m x.process.done (a ++ x.process.past))) is.ahead) in
        let done_le = stands.place.done r in
        let knows = stands.bound in
        record {
          model = each.1;
          number = each.0;
          ahead = is.ahead;
          past = past;
          kept = none_kept xs at_end_here.kept r x at;
          flight = is.flight;
          mail = is.mail;
          outbox = is.outbox;
          early = λ e h. ltb-true (m.time e) x.process.done (in_filter m law (λ z. nat_lt (m.time z) x.process.done) e x.process.past (subst (λ l. 0 < times m e l) (sym kept_done) h)).0;
          done = (let k = rw here at done_le in omega (arith, k, knows));
          bound = knows;
        }

    -- they are committed, with what waits for each of them
    pub committed_at_cut : (pending : List E) → (waits : ℕ → List E) × AreCommitted m (run_at m model stop stop 0 pending) waits xs
    committed_at_cut pending = (waits_in xs, record { count = ruled.count; each = λ r x at. (is_committed pending r x at, sym (waits_at xs r x at)) })

  module _ (model : M) (stop : ℕ) (pending : List E) (left : pending ≡ rest m stop) where
    begun_at : (n : ℕ) × (turns m n stop (begin m) ≡ seq m stop)
    unfolding finished
    begun_at = (weight m stop (begin m).rest, refl)

    world_is : world m (run_at m model stop stop 0 pending) ≡ seq m stop
    world_is = ap (λ xs. record { log = log m stop; rest = xs }) left

    -- and the run goes on alone from there
    pub alone_at_cut : stop ≤ LATEST → IsAlone m (run_at m model stop stop 0 pending) stop 0
    alone_at_cut most =
        let run = run_at m model stop stop 0 pending in
        let begun : IsBegun m run = (begun_at.0, begun_at.1 ∙ sym world_is) in
        record {
          law = law;
          numbered = numbered;
          begun = begun;
          reached = begun_later m run (stop + 1) (omega arith) begun;
          after = sym world_is;
          late = λ e h. rest_late m law numbered stop e (subst (λ xs. 0 < times m e xs) left h);
          within = omega arith;
          stop = most;
        }

    -- whose bound is its stop
    pub bound_at_cut : bound_of m (run_at m model stop stop 0 pending) ≡ stop
    bound_at_cut = ap (first_time m stop) left ∙ none_first m stop (rest m stop) (none_late m law stop (rest m stop) (rest_late m law numbered stop))
