-- What a seat knows of its one share, and of the exchange while it has it.
use Rattle.std.proofs.Common.{◌≡◌, ℕ, ◌<◌, ◌≤◌, Bool, true, List, [], ◌∷◌, None, Option, Result, Ok, Err, drop, get_or, length, map, refl, ap, sym, ◌∙◌, subst, arith}
use Rattle.std.proofs.lemmas.List.{get_or-set_other, length-map, length-set}
use Rattle.std.specs.Prelude.{OnErr, OnOk}
use Rattle.tw_event.specs.declared.event.Event.{Event}
use Rattle.tw_exchange.specs.Board.{Board, handed, least_report, report_of, visited, workers}
use Rattle.tw_sim.specs.declared.machine.Signed.{Signed}
use Rattle.tw_table.specs.declared.rule.View.{View}
use Rattle.tw_table.specs.Shares.{Share}
use Rattle.tw_table.specs.Views.{IsHolding, IsMet, IsVisitedBy, IsWaiting, Knows, taken, took}

-- a list with one element
pub one_alone : {X : Type 0} (f : X → ℕ) (d : X) (n : ℕ) (xs : List X) → map f xs ≡ n ∷ [] → xs ≡ get_or xs 0 d ∷ []
one_alone f d n [] e = absurd (let l = ap length e in omega arith)
one_alone f d n (x ∷ []) e = refl
one_alone f d n (x ∷ y ∷ xs) e = absurd (let l = ap length (ap (drop 1) e) in omega arith)

-- and what is read of it
pub one_read : {X : Type 0} (f : X → ℕ) (d : X) (n : ℕ) (xs : List X) → map f xs ≡ n ∷ [] → f (get_or xs 0 d) ≡ n
one_read f d n [] e = absurd (let l = ap length e in omega arith)
one_read f d n (x ∷ xs) e = ap (λ l. get_or l 0 n) e

abbrev pub worker_of : Share → ℕ
worker_of s = s.shard.terms.worker

-- the worker of a seat that has met the exchange is one of its workers
pub there : (worker : ℕ) (shares : List Share) (x : Board) → map worker_of shares ≡ worker ∷ [] → IsMet shares x → worker < workers x
there worker [] x e met = absurd (let l = ap length e in omega arith)
there worker (s ∷ shares) x e met =
    let stands = met.ruled.rule.each.0 in
    let is : s.shard.terms.worker ≡ worker = ap (λ l. get_or l 0 0) e in
    let within : s.shard.terms.worker < workers x = stands.worker in
    omega arith

-- a seat stands for a worker
stands_for : (worker bound : ℕ) (halted : Bool) (v : View) → IsWaiting worker bound halted v → 0 < length v.shares
stands_for worker bound halted v waits = (let l = ap length waits.share in let m = length-map v.shares worker_of in omega arith)

-- a seat that has taken the exchange holds it
pub holding : (worker bound : ℕ) (halted : Bool) (v w : View) (x : Board) → IsWaiting worker bound halted v → w ≡ took v x → Knows x v → IsHolding worker w
holding worker bound halted v w x waits is knows =
    subst (IsHolding worker) (sym is) (record {
      begun = waits.begun;
      share = waits.share;
      one = ap (λ n. n ∷ []) (sym (knows.workers (stands_for worker bound halted v waits)));
      owners_are = sym (knows.owners (stands_for worker bound halted v waits));
    })

-- what it has taken has the workers that the seat knows
pub workers_taken : (worker bound n : ℕ) (halted : Bool) (v w : View) (x : Board) → IsWaiting worker bound halted v → w ≡ took v x → Knows x v → v.workers ≡ n → workers (taken w) ≡ n
workers_taken worker bound n halted v w x waits is knows same = ap (λ (u : View). workers (taken u)) is ∙ (sym (knows.workers (stands_for worker bound halted v waits)) ∙ same)

-- and the owners
pub owners_taken : (worker bound : ℕ) (owners : Option (List ℕ)) (halted : Bool) (v w : View) (x : Board) → IsWaiting worker bound halted v → w ≡ took v x → Knows x v → v.owners ≡ owners → (taken w).owners ≡ owners
owners_taken worker bound owners halted v w x waits is knows same = ap (λ (u : View). (taken u).owners) is ∙ (sym (knows.owners (stands_for worker bound halted v waits)) ∙ same)

-- and the mark that halts the workers, where the seat has left it
pub halted_taken : (worker bound : ℕ) (halted : Bool) (v w : View) (x : Board) → IsWaiting worker bound halted v → w ≡ took v x → Knows x v → halted ≡ true → (taken w).halted ≡ true
halted_taken worker bound halted v w x waits is knows told = ap (λ (u : View). (taken u).halted) is ∙ knows.halted (waits.left ∙ told)

-- and nothing is done to it yet
pub not_visited : (worker : ℕ) (v w : View) (x : Board) → w ≡ took v x → IsVisitedBy worker (taken w) x
not_visited worker v w x is =
    subst (λ (u : View). IsVisitedBy worker (taken u) x) (sym is) (record { owners = refl; others = λ k other. refl; workers = refl; bound = omega arith; stop = refl; halted = λ told. told })

-- a further visit leaves what visits leave
pub visited_again : {A B : Type 0} (worker : ℕ) (x y z : Board) (out : List (Signed Event)) (report : Option ℕ) (r : Result A B) → IsVisitedBy worker x y
    → OnOk r (z ≡ visited worker out report y) → OnErr r (z ≡ y) → y.bound ≤ z.bound → IsVisitedBy worker x z
visited_again worker x y z out report (Ok a) before ok err rises =
    let told = least_report report (handed worker out y) in
    record {
      owners = ap (λ (b : Board). b.owners) ok ∙ before.owners;
      others = λ w other. ap (λ b. report_of w b) ok ∙ (get_or-set_other y.reports worker w told None other ∙ before.others w other);
      workers = ap (λ b. workers b) ok ∙ (length-set y.reports worker told ∙ before.workers);
      bound = (let old = before.bound in omega arith);
      stop = ap (λ (b : Board). b.stop) ok ∙ before.stop;
      halted = λ told. ap (λ (b : Board). b.halted) ok ∙ before.halted told;
    }
visited_again worker x y z out report (Err b) before ok err rises = subst (IsVisitedBy worker x) (sym err) before

-- and so does the mark that halts all
pub visited_halted : (worker : ℕ) (x y z : Board) → IsVisitedBy worker x y → z ≡ record y { halted = true } → IsVisitedBy worker x z
visited_halted worker x y z before is =
    subst (IsVisitedBy worker x) (sym is) (record { owners = before.owners; others = before.others; workers = before.workers; bound = before.bound; stop = before.stop; halted = λ told. refl })
