-- A visit loses and invents nothing: what is counted of messages stays the same.
use Rattle.std.proofs.Common.{arith, ℕ, zero, suc, ◌+◌, ◌≡◌, ◌<◌, false, List, [], ◌∷◌, ◌++◌, Option, length, set, get_or, ap, sym, subst}
use Rattle.std.proofs.lemmas.List.{length-set}
use Rattle.std.proofs.lemmas.List.Sums.{sum_by-append, sum_by-cons}
use Rattle.std.specs.List.{AllByRecursion, flat_map, sum_by}
use Rattle.tw_exchange.specs.AnyBoard.{AnyBoard, IsBoard, all_mail, deposited, followed, handed, is_homeless, visited, who, workers}
use Rattle.tw_exchange.proofs.Followed.{followed_more, followed_nil, followed_of, length_followed}
use Rattle.tw_exchange.proofs.Homes.{all_home}
use Rattle.tw_process.specs.Parts.{Parts}
use Rattle.tw_sim.specs.declared.machine.Signed.{Signed}

module _ {E : Type 0} (parts : Parts E) (weight : Signed E → ℕ) where
  -- the weight of all mail
  abbrev whole : List (List (Signed E)) → ℕ
  whole mail = sum_by weight (flat_map (λ m. m) mail)

  -- with other mail for one worker
  whole_set : (mail : List (List (Signed E))) (w : ℕ) (ys : List (Signed E)) → w < length mail → whole (set mail w ys) + sum_by weight (get_or mail w []) ≡ whole mail + sum_by weight ys
  whole_set [] w ys h = absurd (omega arith)
  whole_set (m ∷ ms) zero ys h =
      let a = sum_by-append weight m (flat_map (λ m. m) ms) in
      let b = sum_by-append weight ys (flat_map (λ m. m) ms) in
      omega arith
  whole_set (m ∷ ms) (suc w) ys h =
      let a = sum_by-append weight m (flat_map (λ m. m) ms) in
      let b = sum_by-append weight m (flat_map (λ m. m) (set ms w ys)) in
      let c = whole_set ms w ys (omega arith) in
      omega arith

  -- after a deposit of what is for these workers
  whole_followed : (who : ℕ → ℕ) (out : List (Signed E)) (mail : List (List (Signed E))) → AllByRecursion (λ m. who (parts.dst m.event) < length mail) out
      → whole (followed parts who 0 out mail) ≡ whole mail + sum_by weight out
  whole_followed who [] mail home = let same = ap whole (followed_nil parts who 0 mail) in omega arith
  whole_followed who (x ∷ out) mail home =
      let o = who (parts.dst x.event) in
      let ys = get_or mail o [] ++ x ∷ [] in
      let within : o < length mail = home.0 in
      let same : length mail ≡ length (set mail o ys) = sym (length-set mail o ys) in
      let later = whole_followed who out (set mail o ys) (subst (λ n. AllByRecursion (λ m. who (parts.dst m.event) < n) out) same home.1) in
      let more = followed_more parts who x out mail within in
      let here = ap whole more in
      let one = whole_set mail o ys within in
      let put = sum_by-append weight (get_or mail o []) (x ∷ []) in
      let single = sum_by-cons weight x [] in
      let all = sum_by-cons weight x out in
      omega arith

pub nothing_lost : {E : Type 0} {parts : Parts E} (weight : Signed E → ℕ) (x : AnyBoard E) (w : ℕ) (out : List (Signed E)) (report : Option ℕ) → IsBoard parts x → w < workers x → is_homeless parts out x ≡ false
    → sum_by weight (all_mail (visited parts w out report x)) + sum_by weight (handed parts w out x) ≡ sum_by weight (all_mail x) + sum_by weight out
nothing_lost {parts} weight x w out report h below home =
    let mail = deposited parts out x in
    let same = length_followed parts (who x) 0 out x.mail in
    let long = h.mails in
    let taken = whole_set parts weight mail w [] (omega arith) in
    let given = ap (sum_by weight) (followed_of parts (who x) out x.mail w (omega arith)) in
    let all = whole_followed parts weight (who x) out x.mail (subst (λ n. AllByRecursion (λ m. who x (parts.dst m.event) < n) out) (sym long) (all_home parts x.owners (workers x) out home)) in
    omega arith
