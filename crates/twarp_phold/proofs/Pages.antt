-- The lines of processes, one after the other, and the checksum of their states.
use Rattle.std.proofs.Common.{◌≡◌, ℕ, ◌+◌, ◌<◌, ◌≤◌, List, [], ◌∷◌, ◌++◌, drop, map, ap, ◌∙◌, arith}
use Rattle.std.proofs.lemmas.List.{drop_all, drop_more}
use Rattle.std.proofs.lemmas.List.FromFn.{get_or-range_with_len, length-range_with_len, map-range_with_len_more}
use Rattle.std.proofs.lemmas.List.Sums.{fold-append}
use Rattle.std.specs.List.{flat_map, range_with_len}
use Rattle.tw_phold.specs.Phold.{checksum, mixed_in}
use Rattle.tw_phold.specs.declared.phold.Phold.{Phold}
use Rattle.twarp_phold.specs.Report.{knows, process_line}

module _ (m : Phold) (stop : ℕ) where
  -- the lines of the processes from this one on
  abbrev pub lines_from : ℕ → List ℕ
  lines_from r = flat_map (process_line m stop) (drop r (range_with_len 0 m.processes))

  pub lines_next : (r : ℕ) → r < m.processes → lines_from r ≡ process_line m stop r ++ lines_from (r + 1)
  lines_next r h =
      let all = range_with_len 0 m.processes in
      let long = length-range_with_len 0 m.processes in
      let is = get_or-range_with_len 0 m.processes r 0 h in
      ap (flat_map (process_line m stop)) (drop_more all r 0 (omega arith) ∙ ap (λ x. x ∷ drop (r + 1) all) (is ∙ omega arith))

  pub lines_over : (r : ℕ) → m.processes ≤ r → lines_from r ≡ []
  lines_over r h =
      let long = length-range_with_len 0 m.processes in
      ap (flat_map (process_line m stop)) (drop_all r (range_with_len 0 m.processes) (omega arith))

  -- one state more
  pub checksum_next : (r : ℕ) → checksum (map (knows m stop) (range_with_len 0 (r + 1))) ≡ mixed_in (checksum (map (knows m stop) (range_with_len 0 r))) (knows m stop r)
  checksum_next r =
      ap checksum (map-range_with_len_more (knows m stop) 0 r r (omega arith))
      ∙ fold-append mixed_in 0 (map (knows m stop) (range_with_len 0 r)) (knows m stop r ∷ [])
