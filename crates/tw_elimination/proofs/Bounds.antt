-- The time from which on a case rests.
use Rattle.std.proofs.Common.{◌≡◌, ℕ, zero, suc, ◌+◌, ◌*◌, ◌<◌, ◌≤◌, ◌==◌, ◌&&◌, Bool, true, false, List, [], ◌∷◌, drop, drop-cons, fold, get_or, Global, length, map, max, refl, ap, sym, ◌∙◌, subst, inl, inr, arith, if◌then◌else◌}
use Rattle.std.specs.declared.vec.Vec.{Vec}
use Rattle.std.specs.List.{list_all, range_with_len}
use Rattle.std.proofs.Math.Seq.{drop-length}
use Rattle.tw_instance.specs.Tables.{items}
use Rattle.std.proofs.lemmas.Bool.{cases_Bool, cases_eq, and_parts, both_ways, eq-eqb, eqb-true, false≢true, ltb-true, ne_eqb}
use Rattle.tw_event.specs.declared.event.Event.{Event}
use Rattle.tw_event.specs.declared.event.PathNo.{PathNo}
use Rattle.tw_event.proofs.Order.{same_is}
use Rattle.tw_model.specs.declared.net.Link.{Link}
use Rattle.tw_model.specs.Case.{Case, IsCase, opening_events, simulation}
use Rattle.tw_model.specs.Net.{Net, delay_from, hops_of, origin_path}
use Rattle.tw_model.specs.Quiet.{IsQuiet}
use Rattle.tw_model.specs.State.{hop, slot}
use Rattle.tw_model.proofs.Nets.{hop_in_hops, hop_of}
use Rattle.tw_sim.specs.Seq.{at}
use Rattle.tw_sim.proofs.Members.{In, in_range, in_times, range_has}
use Rattle.tw_policy.specs.DisputeWheel.{IsDisputeWheel, Pivot}
use Rattle.tw_policy.specs.Elimination.{IsAtMost, IsScriptedBefore, after_rounds}
use Rattle.tw_policy.specs.Left.{IsHalted, left_after}
use Rattle.tw_policy.specs.Safe.{IsSafe}
use Rattle.tw_policy.specs.Standing.{standing}
use Rattle.tw_policy.proofs.Halts as halts
use Rattle.tw_policy.proofs.Left.{alone, alone_at, left_solved}
use Rattle.tw_policy.proofs.Rests as rests
use Rattle.tw_policy.proofs.Rests.{IsLeftAfterRounds, lists, some_kept, some_path}
use Rattle.tw_policy.proofs.Safe.{solved_safe}
use Rattle.tw_policy.proofs.Scripts.{scripted_before, soon_ready}
use Rattle.tw_policy.proofs.Stuck.{stuck_wheel}
use Rattle.tw_elimination.specs.Bound.{is_solved, last_time, longest_delay, rests_before}
use Rattle.tw_elimination.specs.Rounds.{AreLeft, left_in, rounds_of}
use Rattle.tw_elimination.proofs.Halting.{add_one, peer_below, stays}

-- so many times a delay
pub rounds_times : (start most n : ℕ) → after_rounds start most n ≡ start + n * most
rounds_times start most zero = omega arith
rounds_times start most (suc n) = let more = rounds_times start most n in grind arith

-- ---- the last event, and the longest delay

last_from : (events : List Event) (t : ℕ) → t ≤ fold (λ t e. max t e.time) t events
last_from [] t = omega arith
last_from (e ∷ events) t = let more = last_from events (max t e.time) in omega arith

last_of : (events : List Event) (t : ℕ) (e : Event) → In e events → e.time ≤ fold (λ t e. max t e.time) t events
last_of (x ∷ events) t e (inl same) = let more = last_from events (max t x.time) in let is = ap (λ (y : Event). y.time) same in omega arith
last_of (x ∷ events) t e (inr k) = last_of events (max t x.time) e k
last_of [] t e k = absurd k

pub scripted : (case : Case) → IsScriptedBefore case (last_time (opening_events case.scenes) + 1)
scripted case e there =
    let i = in_times (simulation case) same_is e (opening_events case.scenes) there in
    let most = last_of (opening_events case.scenes) 0 e i in
    omega arith

longest_from : (links : List Link) (d : ℕ) → d ≤ fold (λ d l. max (max d l.delay) l.back) d links
longest_from [] d = omega arith
longest_from (l ∷ links) d = let more = longest_from links (max (max d l.delay) l.back) in omega arith

longest_of : (links : List Link) (d : ℕ) (l : Link) → In l links → (l.delay ≤ fold (λ d l. max (max d l.delay) l.back) d links) × (l.back ≤ fold (λ d l. max (max d l.delay) l.back) d links)
longest_of (x ∷ links) d l (inl same) =
    let more = longest_from links (max (max d x.delay) x.back) in
    let one = ap (λ (y : Link). y.delay) same in
    let two = ap (λ (y : Link). y.back) same in
    (omega arith, omega arith)
longest_of (x ∷ links) d l (inr k) = longest_of links (max (max d x.delay) x.back) l k
longest_of [] d l k = absurd k

delay_most : (v : ℕ) (l : Link) (d : ℕ) → l.delay ≤ d → l.back ≤ d → delay_from v l ≤ d
delay_most v l d one two = elim (cases_Bool (l.first == v)) [ inl b ↦ rw b one | inr b ↦ rw b two ]

pub at_most : (net : Net) → IsAtMost net (longest_delay net.links)
at_most net v w there =
    let h = hop net v (slot net v w) in
    let within = ltb-true (slot net v w) (length (hops_of net v)) there in
    let found = hop_of net v h (hop_in_hops net v (slot net v w) within) in
    let l = found.0 in
    let most = longest_of net.links 0 l found.1.given in
    let same = found.1.delay in
    let low = delay_most v l (longest_delay net.links) most.0 most.1 in
    omega arith

-- ---- one path each

pub all_at : (test : ℕ → Bool) (vs : List ℕ) → list_all test vs ≡ true → (v : ℕ) → In v vs → test v ≡ true
all_at test (w ∷ vs) h v (inl e) = subst (λ z. test z ≡ true) (sym e) (and_parts (test w) (list_all test vs) h).0
all_at test (w ∷ vs) h v (inr k) = all_at test vs (and_parts (test w) (list_all test vs) h).1 v k
all_at test [] h v k = absurd k

alone_list : (xs : List PathNo) → length xs ≡ 1 → (q : PathNo) × (xs ≡ q ∷ [])
alone_list (q ∷ []) one = (q, refl)
alone_list [] one = absurd (omega arith)
alone_list (q ∷ p ∷ xs) one = absurd (omega arith)

module _ (case : Case) (n : ℕ) where
  pub one_each : is_solved case n ≡ true → (v : ℕ) → v < case.net.nodes → (q : PathNo) × (left_after case.net (standing case) n v ≡ q ∷ [])
  one_each solved v within =
      alone_list (left_in case n v) (eqb-true (length (left_in case n v)) 1
      (all_at (λ v. length (left_in case n v) == 1) (range_with_len 0 case.net.nodes) solved v (range_has v 0 case.net.nodes (omega arith) (omega arith))))

  module _ (is : IsCase case) where
    pub safe : is_solved case n ≡ true → IsSafe case
    safe solved = solved_safe case is (suc n) (left_solved case.net (standing case) n (one_each solved))

    pub quiet : is_solved case n ≡ true → (t : ℕ) → rests_before case n ≤ t → IsQuiet case t
    quiet solved t over =
        let start = last_time (opening_events case.scenes) + 1 in
        let most = longest_delay case.net.links in
        rests.rests case is start (scripted_before case start (scripted case)) t (soon_ready start most t (suc n) over) most (at_most case.net)
        (IsLeftAfterRounds case.net (standing case)) (lists case.net (standing case)) n (alone case.net (standing case) n (one_each solved)) over

    pub there : (v : ℕ) (q : PathNo) → left_in case n v ≡ q ∷ [] → (t : ℕ) → rests_before case n ≤ t → (at (simulation case) t v).rib ≡ q
    there v q one t over =
        let start = last_time (opening_events case.scenes) + 1 in
        let most = longest_delay case.net.links in
        let soon : after_rounds start most n ≤ t = omega arith in
        alone_at case.net (standing case) n v q one ((at (simulation case) t v).rib)
        (rests.may_now case is start (scripted_before case start (scripted case)) t (soon_ready start most t n soon) most (at_most case.net)
        (IsLeftAfterRounds case.net (standing case)) (lists case.net (standing case)) n v soon)

-- ---- a choice

some_other : (test : ℕ → Bool) (vs : List ℕ) → list_all test vs ≡ false → (v : ℕ) × (test v ≡ false) × In v vs
some_other test [] h = absurd (false≢true (sym h))
some_other test (v ∷ vs) h =
    elim (cases_Bool (test v)) [
      | inr b ↦ (v, b, inl refl)
      | inl b ↦ (let more = some_other test vs (rw b at h) in (more.0, more.1, inr more.2))
    ]

not_empty : (xs : List PathNo) (q : PathNo) → In q xs → 0 < length xs
not_empty (x ∷ xs) q i = omega arith
not_empty [] q i = absurd i

-- the lists of one round behind the halt, which changes nothing
abbrev pub at_halt : Case → ℕ → List PathNo
at_halt case = left_in case (suc (rounds_of case))

pub last_left : (case : Case) (w : ℕ) → w < case.net.nodes → at_halt case w ≡ left_in case (rounds_of case) w
last_left case w here = ap (λ m. left_in case m w) (add_one (rounds_of case)) ∙ stays case 1 w here

pub halted_there : (case : Case) → IsHalted case.net (standing case) (at_halt case)
halted_there case v =
    sym (ap (λ xs. if v == 0 then origin_path ∷ [] else xs)
    (halts.remaining_same case.net (standing case) (at_halt case) (left_in case (rounds_of case)) v (λ w there. last_left case w (peer_below case.net v w there)) [] (standing case v).order))

-- where not each router has one path left, some router has a choice
pub some_choice : (case : Case) → is_solved case (rounds_of case) ≡ false → (v : ℕ) × (v < case.net.nodes) × (1 < length (at_halt case v))
some_choice case other =
    let n = rounds_of case in
    let found = some_other (λ v. length (left_in case n v) == 1) (range_with_len 0 case.net.nodes) other in
    let v = found.0 in
    let within = in_range v 0 case.net.nodes found.2 in
    let same = ap length (last_left case v (omega arith)) in
    let some = not_empty (at_halt case v) (some_path case.net (standing case) (suc n) v) (some_kept case.net (standing case) (IsLeftAfterRounds case.net (standing case)) (lists case.net (standing case)) (suc n) v) in
    let two : 1 < length (at_halt case v) = elim (cases_eq (length (left_in case n v)) 1) [
      | inl e ↦ absurd (both_ways (length (left_in case n v) == 1) found.1 (eq-eqb (length (left_in case n v)) 1 e))
      | inr apart ↦ omega arith
    ] in
    (v, omega arith, two)

pub wheel : (case : Case) → is_solved case (rounds_of case) ≡ false → (one : Pivot) × (others : List Pivot) × IsDisputeWheel case.net (standing case) one others
wheel case other =
    let c = some_choice case other in
    let wheel = stuck_wheel case.net (standing case) (at_halt case) (halted_there case) c.0 c.2 in
    (wheel.one, wheel.others, wheel.is)

-- ---- lists of one path, one by one

-- whether each of these lists has one path
abbrev pub one_each_of : List (Vec PathNo Global) → Bool
one_each_of left = list_all (λ paths. length paths == 1) (items left)

one_step : (left : List (Vec PathNo Global)) (i : ℕ) (x : Vec PathNo Global) → i < length left → x ≡ get_or left i x
    → one_each_of (drop i left) ≡ ((length x.items == 1) && one_each_of (drop (i + 1) left))
one_step left i x within is =
    ap one_each_of (drop-cons left i x within)
    ∙ (ap (λ (y : Vec PathNo Global). (length y.items == 1) && one_each_of (drop (suc i) left)) (sym is) ∙ ap (λ k. (length x.items == 1) && one_each_of (drop k left)) (add_one i))

pub one_more : (left : List (Vec PathNo Global)) (i : ℕ) (x : Vec PathNo Global) → i < length left → x ≡ get_or left i x → length x.items ≡ 1
    → one_each_of (drop i left) ≡ one_each_of left → one_each_of (drop (i + 1) left) ≡ one_each_of left
one_more left i x within is one before =
    sym (one_step left i x within is ∙ ap (λ b. b && one_each_of (drop (i + 1) left)) (eq-eqb (length x.items) 1 one)) ∙ before

pub one_other : (left : List (Vec PathNo Global)) (i : ℕ) (x : Vec PathNo Global) → i < length left → x ≡ get_or left i x → (length x.items ≡ 1 → ⊥)
    → one_each_of (drop i left) ≡ one_each_of left → false ≡ one_each_of left
one_other left i x within is other before =
    sym (one_step left i x within is ∙ ap (λ b. b && one_each_of (drop (i + 1) left)) (ne_eqb (length x.items) 1 other)) ∙ before

pub one_last : (left : List (Vec PathNo Global)) (i : ℕ) → i ≡ length left → one_each_of (drop i left) ≡ one_each_of left → true ≡ one_each_of left
one_last left i is before = sym (ap (λ k. one_each_of (drop k left)) is ∙ ap one_each_of (drop-length left)) ∙ before

-- the lists of all routers
one_map : (f : ℕ → List PathNo) (vs : List ℕ) → list_all (λ paths. length paths == 1) (map f vs) ≡ list_all (λ v. length (f v) == 1) vs
one_map f [] = refl
one_map f (v ∷ vs) = ap (λ b. (length (f v) == 1) && b) (one_map f vs)

pub solved_is : (case : Case) (n : ℕ) (all : List (List PathNo)) → AreLeft case n all → list_all (λ paths. length paths == 1) all ≡ is_solved case n
solved_is case n all are = ap (list_all (λ paths. length paths == 1)) are ∙ one_map (left_in case n) (range_with_len 0 case.net.nodes)
