-- How a router begins.
use Rattle.std.proofs.Common.{◌≡◌, ◌≢◌, ℕ, zero, suc, ◌≤◌, Bool, true, false, List, [], ◌∷◌, get_or, length, map, replicate, set, refl, ap, sym, subst, ◌∙◌, arith}
use Rattle.std.proofs.lemmas.List.{length-map}
use Rattle.std.proofs.lemmas.List.Elements.{All-map, All-same, All-weaker}
use Rattle.std.specs.List.{All, AllPairs}
use Rattle.std.specs.Prelude.{Result, Ok, Err, IfOk}
use Rattle.tw_event.specs.declared.event.PathNo.{PathNo}
use Rattle.tw_model.specs.declared.state.Counters.{Counters}
use Rattle.tw_model.specs.declared.state.Row.{Row}
use Rattle.tw_model.specs.Net.{IsPath, Net, empty_path, hops_of, is_own, paths_of}
use Rattle.tw_model.proofs.Paths.{own_is_path, paths_of-distinct}
use Rattle.tw_model.specs.State.{IsCounted, IsState, fresh_row, none_barred}

pub all-paths : (net : Net) (v : ℕ) (order : List PathNo) → All (λ q. is_own net v q ≡ true) order → All (IsPath net) order
all-paths net v order own = All-weaker (λ q. is_own net v q ≡ true) (IsPath net) (λ q own. (own_is_path net v q own).0) order own

-- the state in which a router begins is one that it can have
pub IsState-opening : (net : Net) (v : ℕ) (c : Counters) (rows : List Row) (order : List PathNo) (barred : List Bool)
    → IsCounted c → rows ≡ map fresh_row (hops_of net v) → order ≡ paths_of net v → barred ≡ none_barred net v → All (λ q. is_own net v q ≡ true) (paths_of net v)
    → IsState net v (record { rib = empty_path; rows = rows; order = order; barred = barred; counters = c })
IsState-opening net v c rows order barred counted r o b own =
    record {
      rib = omega arith;
      hops = ap (λ (rs : List Row). length rs) r ∙ length-map (hops_of net v) fresh_row;
      heard = All-same (λ (x : Row). IsPath net x.heard) rows (map fresh_row (hops_of net v)) r (All-map (λ (x : Row). IsPath net x.heard) fresh_row (hops_of net v) (λ k d h. omega arith));
      sessions = All-same (λ (x : Row). x.session ≤ c.handled) rows (map fresh_row (hops_of net v)) r (All-map (λ (x : Row). x.session ≤ c.handled) fresh_row (hops_of net v) (λ k d h. omega arith));
      places = ap (λ (qs : List PathNo). length qs) o;
      order = All-same (λ q. is_own net v q ≡ true) order (paths_of net v) o own;
      distinct = subst (AllPairs (λ (p q : PathNo). p ≢ q)) (sym o) (paths_of-distinct net v);
      barred = ap (λ (bs : List Bool). length bs) b ∙ length-map (paths_of net v) (λ q. false);
      counters = counted;
    }

none_at : (paths : List PathNo) (k : ℕ) → get_or (map (λ q. false) paths) k false ≡ false
none_at [] k = refl
none_at (q ∷ paths) zero = refl
none_at (q ∷ paths) (suc k) = none_at paths k

-- no path is barred at first
pub none_barred_at : (net : Net) (v k : ℕ) → get_or (none_barred net v) k false ≡ false
none_barred_at net v k = none_at (paths_of net v) k

-- nor once a path is allowed
pub none_barred_then : (bars : List Bool) (i k : ℕ) → ((j : ℕ) → get_or bars j false ≡ false) → get_or (set bars i false) k false ≡ false
none_barred_then [] i k none = refl
none_barred_then (b ∷ bars) zero zero none = refl
none_barred_then (b ∷ bars) zero (suc k) none = none (suc k)
none_barred_then (b ∷ bars) (suc i) zero none = none zero
none_barred_then (b ∷ bars) (suc i) (suc k) none = none_barred_then bars i k (λ j. none (suc j))

-- one value for each of a list
pub same_each : {X Y : Type 0} (xs : List X) (y : Y) → replicate (length xs) y ≡ map (λ x. y) xs
same_each [] y = refl
same_each (x ∷ xs) y = ap (λ ys. y ∷ ys) (same_each xs y)

-- what follows of each value holds of the one that a call made
pub made : {X E : Type 0} {P Q : X → Type 0} (result : Result X E) → IfOk result P → ((x : X) → P x → Q x) → IfOk result Q
made (Ok x) h follows = follows x h
made (Err e) h follows = tt
