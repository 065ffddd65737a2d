-- What the rule gives: the machine put together is good.
use Rattle.std.proofs.Common.{rules, ◌≡◌, ℕ, ◌<◌, ◌≤◌, cond, true, List, [], ◌∷◌, ◌++◌, length, map, Some, flat_map, slice_get, refl, ap, sym, ◌∙◌, subst, arith}
use Rattle.std.proofs.lemmas.Bool.{cases_Bool, cases_eq, eq-eqb, ne_eqb}
use Rattle.std.specs.List.{AllByRecursion}
use Rattle.std.specs.Option.{option_map_or}
use Rattle.tw_core.proofs.Headline.{at_end, good_is_seq, good_log}
use Rattle.tw_core.proofs.Owners.{owner_is}
use Rattle.tw_core.proofs.Parts.{good_assembled}
use Rattle.tw_core.proofs.Sums.{all_map}
use Rattle.tw_core.specs.Good.{IsGood}
use Rattle.tw_core.specs.Machine.{AreCounted, Core}
use Rattle.tw_core.specs.Parts.{AddUp, IsPart, Part, at_owner, owning_part, total}
use Rattle.tw_core.specs.Run.{IsAtEnd, IsSeq, IsSettled}
use Rattle.tw_rule.proofs.Places.{all_at, all_in_map, get_map, total_map}
use Rattle.tw_rule.specs.Board.{Board, IsBoard}
use Rattle.tw_rule.specs.Place.{IsRunBefore, Place, in_hand, part_of, place_core, whole}
use Rattle.tw_rule.specs.Rule.{Rule, Stands, assembled, is_at, owning, shared}
use Rattle.tw_sim.proofs.Unique.{all_below}
use Rattle.tw_sim.specs.Seq.{log}
use Rattle.tw_sim.specs.Simulation.{Simulation, IsLawful, IsNumbered, below, only}

module _ {S E : Type 0} (m : Simulation S E) (law : IsLawful m) (who : ℕ → ℕ) where
  -- a router's owners are as many as the places of its worker
  owners_at : (r : ℕ) → r < m.routers → (x : Board E) (ps : List (Place E)) → AllByRecursion (Stands m who x) ps → total (owning r) ps ≡ total (is_at (who r)) ps
  owners_at r l x [] h = refl
  owners_at r l x (p ∷ ps) h = grind (arith, cases_eq, eq-eqb, ne_eqb, owners_at r l x ps h.1)

  -- so each router has one
  pub owners_once : (x : Board E) (ps : List (Place E)) (r : ℕ) → Rule m who x ps → r < m.routers → total (owning r) ps ≡ 1
  owners_once x ps r rule l = owners_at r l x ps rule.each ∙ rule.places (who r) (rule.routers r l)

  -- a place that stands is a part
  part_stands : (x : Board E) → IsBoard m x → (p : Place E) → Stands m who x p → IsPart m (shared x) (part_of x.stop p)
  part_stands x board p stands = grind arith

  abbrev parts : Board E → List (Place E) → List (Part E)
  parts x ps = map (part_of x.stop) ps

  adds_up : (x : Board E) (ps : List (Place E)) → Rule m who x ps → AddUp m (shared x) (parts x ps)
  adds_up x ps rule = record {
    once = λ r l. total_map (λ (p : Part E). cond (p.owns r) 1 0) (part_of x.stop) ps ∙ owners_once x ps r rule l;
    each = all_in_map (IsPart m (shared x)) (part_of x.stop) ps
        (all_map (Stands m who x) (λ p. IsPart m (shared x) (part_of x.stop p)) (part_stands x rule.board) ps rule.each);
    bound = rule.board.stop;
    late = rule.board.late;
    suit = rule.board.suit;
    balance = search (rules, total_map);
  }

  -- the machine put together is good
  pub good_of_rule : (x : Board E) (ps : List (Place E)) → Rule m who x ps → IsGood m (assembled x ps)
  good_of_rule x ps rule = good_assembled m law (shared x) (parts x ps) (adds_up x ps rule)

  -- and as many events of its routers are counted as committed as are committed
  counted_together : (r stop : ℕ) (ps : List (Place E)) → AllByRecursion (λ p. AreCounted m (place_core stop p)) ps
      → at_owner (λ (C : Core E). C.past r) 0 (map (part_of stop) ps) r
      ≡ length (below m (at_owner (λ (C : Core E). C.done r) 0 (map (part_of stop) ps) r) (at_owner (λ (C : Core E). C.history r) [] (map (part_of stop) ps) r))
  counted_together r stop [] counted = refl
  counted_together r stop (p ∷ ps) counted = grind (arith, cases_Bool, counted_together r stop ps counted.1)

  pub counted_of_rule : (x : Board E) (ps : List (Place E)) → Rule m who x ps → AreCounted m (assembled x ps)
  counted_of_rule x ps rule r = grind (arith, counted_together, all_map)

  -- ---- what a place has is what that machine has

  owner_of : (x : Board E) (ps : List (Place E)) (i r : ℕ) (p : Place E) → Rule m who x ps → slice_get ps i ≡ Some p → r < m.routers → p.owns r ≡ true
      → owning_part r (parts x ps) ≡ Some (part_of x.stop p)
  owner_of x ps i r p rule place l mine =
      let one = (adds_up x ps rule).once r l in
      all_at (λ (z : Part E). z.owns r ≡ true → owning_part r (parts x ps) ≡ Some z) (parts x ps) i (part_of x.stop p) (get_map (part_of x.stop) ps i p place) (owner_is r (parts x ps) one) mine

  pub read_of : {X : Type 0} (read : Core E → X) (nothing : X) (x : Board E) (ps : List (Place E)) (i r : ℕ) (p : Place E) → Rule m who x ps → slice_get ps i ≡ Some p → r < m.routers
      → p.owns r ≡ true → at_owner read nothing (parts x ps) r ≡ read (whole x.stop p)
  read_of read nothing x ps i r p rule place l mine = ap (λ o. option_map_or (λ (z : Part E). read z.core) o nothing) (owner_of x ps i r p rule place l mine)

  pub history_of : (x : Board E) (ps : List (Place E)) (i r : ℕ) (p : Place E) → Rule m who x ps → slice_get ps i ≡ Some p → r < m.routers → p.owns r ≡ true
      → (assembled x ps).history r ≡ p.history r
  history_of x ps i r p rule place l mine = read_of (λ C. C.history r) [] x ps i r p rule place l mine

  pub done_of : (x : Board E) (ps : List (Place E)) (i r : ℕ) (p : Place E) → Rule m who x ps → slice_get ps i ≡ Some p → r < m.routers → p.owns r ≡ true
      → (assembled x ps).done r ≡ p.done r
  done_of x ps i r p rule place l mine = read_of (λ C. C.done r) 0 x ps i r p rule place l mine

  -- ---- and that machine is the one-thread run

  pub seq_of_rule : IsNumbered m → (x : Board E) (ps : List (Place E)) → Rule m who x ps → IsSeq m (assembled x ps)
  seq_of_rule numbered x ps rule = good_is_seq m law numbered (assembled x ps) (good_of_rule x ps rule)

  pub committed_of : IsNumbered m → (x : Board E) (ps : List (Place E)) (i r : ℕ) (p : Place E) → Rule m who x ps → slice_get ps i ≡ Some p → r < m.routers → p.owns r ≡ true
      → below m (p.done r) (p.history r) ≡ only m r (log m (p.done r))
  committed_of numbered x ps i r p rule place l mine =
      let events = (seq_of_rule numbered x ps rule).events r in
      subst (λ t. below m t (p.history r) ≡ only m r (log m t)) (done_of x ps i r p rule place l mine)
      (subst (λ xs. below m ((assembled x ps).done r) xs ≡ only m r (log m ((assembled x ps).done r))) (history_of x ps i r p rule place l mine) events)

  -- before the bound and each earlier time, what a place has handled is that run
  pub before_of : IsNumbered m → (x : Board E) (ps : List (Place E)) (i t : ℕ) (p : Place E) → Rule m who x ps → slice_get ps i ≡ Some p → t ≤ x.bound → IsRunBefore m t p
  before_of numbered x ps i t p rule place le = λ r l mine.
      ap (below m t) (sym (history_of x ps i r p rule place l mine)) ∙ good_log m law numbered (assembled x ps) (good_of_rule x ps rule) t le r

  -- where the bound is the stop, a router has handled its events of the whole run
  pub handled_of : IsNumbered m → (x : Board E) (ps : List (Place E)) (i r : ℕ) (p : Place E) → Rule m who x ps → slice_get ps i ≡ Some p → r < m.routers → p.owns r ≡ true
      → x.bound ≡ x.stop → p.history r ≡ only m r (log m x.stop)
  handled_of numbered x ps i r p rule place l mine last =
      let A = assembled x ps in
      let events : below m x.stop (A.history r) ≡ only m r (log m x.stop) = subst (λ t. below m t (A.history r) ≡ only m r (log m t)) last ((seq_of_rule numbered x ps rule).handled r) in
      sym (history_of x ps i r p rule place l mine) ∙ (sym (all_below m law x.stop (A.history r) ((good_of_rule x ps rule).soon r)) ∙ events)

  none_flies : (stop : ℕ) (ps : List (Place E)) → AllByRecursion (λ p. in_hand p ≡ []) ps → flat_map (λ (p : Part E). p.core.flight) (map (part_of stop) ps) ≡ []
  none_flies stop [] h = refl
  none_flies stop (p ∷ ps) h = ap (λ xs. xs ++ flat_map (λ (z : Part E). z.core.flight) (map (part_of stop) ps)) h.0 ∙ none_flies stop ps h.1

  none_held : (stop : ℕ) (ps : List (Place E)) → AllByRecursion (λ p. p.held ≡ []) ps → flat_map (λ (p : Part E). p.core.held) (map (part_of stop) ps) ≡ []
  none_held stop [] h = refl
  none_held stop (p ∷ ps) h = ap (λ xs. xs ++ flat_map (λ (z : Part E). z.core.held) (map (part_of stop) ps)) h.0 ∙ none_held stop ps h.1

  pub end_of_rule : IsNumbered m → (x : Board E) (ps : List (Place E)) → Rule m who x ps → x.mail ≡ [] → AllByRecursion (λ p. in_hand p ≡ []) ps → AllByRecursion (λ p. p.held ≡ []) ps
      → x.bound ≡ x.stop → IsAtEnd m (assembled x ps)
  end_of_rule numbered x ps rule no_mail empty nothing last =
      let good = good_of_rule x ps rule in
      let settled : IsSettled m (assembled x ps) = record {
        flight = ap (λ xs. xs ++ flat_map (λ (z : Part E). z.core.flight) (parts x ps)) no_mail ∙ none_flies x.stop ps empty;
        held = none_held x.stop ps nothing;
        pending = λ e h. (let late = good.late e (omega arith) in omega arith);
      } in
      at_end m law numbered (assembled x ps) good settled
