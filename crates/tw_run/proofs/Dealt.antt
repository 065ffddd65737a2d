-- Owners as `run` deals them out fit its run.
use Rattle.std.proofs.Common.{◌≡◌, ℕ, ◌+◌, ◌*◌, ◌/◌, ◌%◌, ◌<◌, ◌≤◌, zero, suc, Bool, true, false, List, [], ◌∷◌, ◌++◌, ap, ap₂, get_or, map, refl, slice_get, Some, subst, sym, true≢false, ◌∙◌, arith}
use Rattle.std.proofs.Math.Nat.{div-lt_iff_lt-mul, mod-lt, mul-lt-mul_of_pos_right, mul_comm}
use Rattle.std.proofs.lemmas.Bool.{eq-eqb, lt-ltb}
use Rattle.std.proofs.lemmas.List.FromFn.{get_or-map-range_with_len, length-map-range_with_len, map-range_with_len_more}
use Rattle.std.specs.List.{list_all, range_with_len}
use Rattle.std.specs.Prelude.{if◌then◌else◌, nat_lt, ◌||◌}
use Rattle.std.proofs.lemmas.Option.{get_or_from_slice_get}
use Rattle.tw_model.specs.Case.{Case}
use Rattle.tw_sim.specs.Owners.{owner}
use Rattle.tw_exchange.specs.Board.{new_board, who, worker_for, workers}
use Rattle.tw_options.specs.declared.command_line.Asked.{Asked as AnAsked}
use Rattle.tw_parallel.specs.Moving.{are_owners}
use Rattle.tw_parallel.specs.Sim.{GoesOn, HasSameOwners, Sim}
use Rattle.tw_run.specs.Dealing.{AreDealtAs, first_owner, owner_after, owners_after}

-- r * workers div routers is a worker
pub in_blocks : (workers routers r : ℕ) → 0 < workers → r < routers → r * workers / routers < workers
in_blocks workers routers r some there =
    let all : 0 < routers = omega (arith, there) in
    let below : r * workers < workers * routers = subst (λ n. r * workers < n) (mul_comm routers workers) (mul-lt-mul_of_pos_right there some) in
    (div-lt_iff_lt-mul all).1 below

pub first_within : (asked : AnAsked) (workers routers r : ℕ) → 0 < workers → r < routers → first_owner asked workers routers r < workers
first_within asked workers routers r some there = go asked.blocks
  where
    go : (b : Bool) → (if b then r * workers / routers else r % workers) < workers
    go true = in_blocks workers routers r some there
    go false = mod-lt r some

pub owner_within : (asked : AnAsked) (workers routers checkpoints r : ℕ) → 0 < workers → r < routers → owner_after asked workers routers checkpoints r < workers
owner_within asked workers routers checkpoints r some there = go asked.rotate
  where
    first : ℕ
    first = first_owner asked workers routers r

    go : (b : Bool) → (if b then (first + checkpoints) % workers else first) < workers
    go true = mod-lt (first + checkpoints) some
    go false = first_within asked workers routers r some there

-- one router more
pub one_more : (f : ℕ → ℕ) (n : ℕ) (xs ys : List ℕ) (x : ℕ) → ys ≡ xs ++ x ∷ [] → xs ≡ map f (range_with_len 0 n) → x ≡ f n → ys ≡ map f (range_with_len 0 (n + 1))
one_more f n xs ys x pushed old new = pushed ∙ (ap₂ (λ l y. l ++ y ∷ []) old new ∙ sym (map-range_with_len_more f 0 n n (omega arith)))

all_in_range : (f : ℕ → ℕ) (most a n : ℕ) → ((r : ℕ) → r < a + n → f r < most) → list_all (λ w. nat_lt w most) (map f (range_with_len a n)) ≡ true
all_in_range f most a zero within = refl
all_in_range f most a (suc n) within =
    rw (lt-ltb (f a) most (within a (omega arith))) (all_in_range f most (a + 1) n (λ r there. within r (omega (arith, there))))

-- dealt out to all workers, they are one of the workers for each router
pub fits : (s : Sim) (asked : AnAsked) (checkpoints : ℕ) → 0 < workers s.board → are_owners s (owners_after asked (workers s.board) s.case.net.nodes checkpoints) ≡ true
fits s asked checkpoints some =
    let nodes = s.case.net.nodes in
    let f = owner_after asked (workers s.board) nodes checkpoints in
    rw (length-map-range_with_len f 0 nodes, eq-eqb nodes nodes refl) (all_in_range f (workers s.board) 0 nodes (λ r there.
    owner_within asked (workers s.board) nodes checkpoints r some (omega (arith, there))))

-- nothing has changed
pub goes_on_same : (s : Sim) → GoesOn s s
goes_on_same s = record { case = refl; workers = refl; retains = λ all. all; cancels = refl; bound = omega arith }

-- ---- the routers are dealt out to all workers

-- as a run opens, where nothing else is told
pub dealt_opening : (asked : AnAsked) (s : Sim) (n : ℕ) → (asked.blocks || asked.rotate) ≡ false → s.board ≡ new_board n 0 0 → AreDealtAs asked 0 s
dealt_opening asked s n off begins = λ r known. go r asked.blocks asked.rotate off
  where
    in_turn : (r : ℕ) → who s.board r ≡ owner (workers s.board) r
    in_turn r = ap (λ o. worker_for o (workers s.board) r) (ap (λ x. x.owners) begins)

    first : ℕ → Bool → ℕ
    first r b = if b then r * workers s.board / s.case.net.nodes else owner (workers s.board) r

    go : (r : ℕ) (b c : Bool) → (b || c) ≡ false
        → who s.board r ≡ (if c then ((if b then r * workers s.board / s.case.net.nodes else owner (workers s.board) r) + 0) % workers s.board else (if b then r * workers s.board / s.case.net.nodes else owner (workers s.board) r))
    go r true c off = absurd (true≢false off)
    go r false true off = absurd (true≢false off)
    go r false false off = in_turn r

-- where they have gone to the workers that a list names
pub dealt_out : (asked : AnAsked) (k : ℕ) (s t : Sim) (list : List ℕ) → GoesOn s t → list ≡ owners_after asked (workers s.board) s.case.net.nodes k
    → ((r : ℕ) → r < s.case.net.nodes → slice_get list r ≡ Some (who t.board r)) → AreDealtAs asked k t
dealt_out asked k s t list on is gone = λ r known.
    let nodes : t.case.net.nodes ≡ s.case.net.nodes = ap (λ (c : Case). c.net.nodes) on.case in
    let within : r < s.case.net.nodes = omega (arith, known, nodes) in
    let f = owner_after asked (workers s.board) s.case.net.nodes k in
    let named : get_or list r 0 ≡ who t.board r = get_or_from_slice_get list r (who t.board r) 0 (gone r within) in
    let dealt : get_or list r 0 ≡ f r = ap (λ l. get_or l r 0) is ∙ get_or-map-range_with_len f 0 s.case.net.nodes r r 0 within (omega arith) in
    sym named ∙ (dealt ∙ (λ i. owner_after asked (sym on.workers i) (sym nodes i) k r))

-- and while the workers work
pub still_dealt : (asked : AnAsked) (k : ℕ) (s t : Sim) → AreDealtAs asked k s → GoesOn s t → HasSameOwners s t → AreDealtAs asked k t
still_dealt asked k s t dealt on same = λ r known.
    let nodes : t.case.net.nodes ≡ s.case.net.nodes = ap (λ (c : Case). c.net.nodes) on.case in
    let within : r < s.case.net.nodes = omega (arith, known, nodes) in
    same r within ∙ (dealt r within ∙ (λ i. owner_after asked (sym on.workers i) (sym nodes i) k r))

-- those that don't go from worker to worker are dealt out so after every checkpoint
pub dealt_always : (asked : AnAsked) (k j : ℕ) (s : Sim) → asked.rotate ≡ false → AreDealtAs asked k s → AreDealtAs asked j s
dealt_always asked k j s stays dealt = λ r known. dealt r known ∙ go r asked.rotate stays
  where
    first : ℕ → ℕ
    first r = first_owner asked (workers s.board) s.case.net.nodes r

    go : (r : ℕ) (b : Bool) → b ≡ false → (if b then (first r + k) % workers s.board else first r) ≡ (if b then (first r + j) % workers s.board else first r)
    go r true stays = absurd (true≢false stays)
    go r false stays = refl
