-- The line of an event is its pieces, one after the other.
use Rattle.std.proofs.Common.{◌≡◌, ℕ, List, [], ◌∷◌, ◌++◌, codes, refl, sym, ap, ◌∙◌, append_assoc}
use Rattle.std.specs.Fmt.{decimal}
use Rattle.tw_event.specs.declared.event.Body.{Body}
use Rattle.tw_event.specs.declared.event.Body.TheVariants.{Start, Fail, Restore, Swap, Forbid, Allow, Update}
use Rattle.tw_event.specs.declared.event.Event.{Event}
use Rattle.tw_model.specs.Net.{Net, path}
use Rattle.tw_report.specs.Lines.{body_words}
use Rattle.tw_report.specs.Pieces.{head_text, pair_text, swap_text, update_text}
use Rattle.tw_report.specs.Words.{line, path_text}

-- what stands after the receiver
abbrev pub tail_text : Net → Event → Body → List ℕ
tail_text net e Start = codes " start" ++ 10 ∷ []
tail_text net e (Fail w) = pair_text (codes " fail") w e.seq
tail_text net e (Restore w) = pair_text (codes " restore") w e.seq
tail_text net e (Swap i j) = swap_text e.seq i j
tail_text net e (Forbid k) = pair_text (codes " forbid") e.seq k
tail_text net e (Allow k) = pair_text (codes " allow") e.seq k
tail_text net e (Update q n) = update_text e n (path net q)

two_then : (a b z : List ℕ) → (a ++ 32 ∷ b) ++ z ≡ a ++ 32 ∷ (b ++ z)
two_then a b z = append_assoc a (32 ∷ b) z

three_then : (a b c z : List ℕ) → (a ++ 32 ∷ (b ++ 32 ∷ c)) ++ z ≡ a ++ 32 ∷ (b ++ 32 ∷ (c ++ z))
three_then a b c z = append_assoc a (32 ∷ (b ++ 32 ∷ c)) z ∙ ap (λ bs. a ++ 32 ∷ bs) (two_then b c z)

four_then : (a b c d z : List ℕ) → (a ++ 32 ∷ (b ++ 32 ∷ (c ++ 32 ∷ d))) ++ z ≡ a ++ 32 ∷ (b ++ 32 ∷ (c ++ 32 ∷ (d ++ z)))
four_then a b c d z = append_assoc a (32 ∷ (b ++ 32 ∷ (c ++ 32 ∷ d))) z ∙ ap (λ bs. a ++ 32 ∷ bs) (three_then b c d z)

-- what follows the receiver comes after the time and the receiver
after_both : (t d x y z : List ℕ) → x ++ y ≡ z → (t ++ 32 ∷ (d ++ x)) ++ y ≡ (t ++ 32 ∷ d) ++ z
after_both t d x y z h =
    append_assoc t (32 ∷ (d ++ x)) y ∙ (ap (λ bs. t ++ 32 ∷ bs) (append_assoc d x y ∙ ap (λ bs. d ++ bs) h) ∙ sym (append_assoc t (32 ∷ d) z))

module _ (net : Net) (e : Event) where
  after_head : (x z : List ℕ) → x ++ 10 ∷ [] ≡ z → (codes "event " ++ (decimal e.time ++ 32 ∷ (decimal e.dst ++ x))) ++ 10 ∷ [] ≡ head_text e ++ z
  unfolding head_text
  after_head x z h = ap (λ bs. codes "event " ++ bs) (after_both (decimal e.time) (decimal e.dst) x (10 ∷ []) z h)

  pub line_in_pieces : (b : Body) → line (codes "event" ∷ decimal e.time ∷ decimal e.dst ∷ body_words net e b) ≡ head_text e ++ tail_text net e b
  unfolding pair_text swap_text update_text
  line_in_pieces Start = after_head (codes " start") _ refl
  line_in_pieces (Fail w) = after_head (codes " fail" ++ 32 ∷ (decimal w ++ 32 ∷ decimal e.seq)) _ (ap (λ bs. codes " fail " ++ bs) (two_then (decimal w) (decimal e.seq) (10 ∷ [])))
  line_in_pieces (Restore w) =
      after_head (codes " restore" ++ 32 ∷ (decimal w ++ 32 ∷ decimal e.seq)) _ (ap (λ bs. codes " restore " ++ bs) (two_then (decimal w) (decimal e.seq) (10 ∷ [])))
  line_in_pieces (Swap i j) =
      after_head (codes " swap" ++ 32 ∷ (decimal e.seq ++ 32 ∷ (decimal i ++ 32 ∷ decimal j))) _ (ap (λ bs. codes " swap " ++ bs) (three_then (decimal e.seq) (decimal i) (decimal j) (10 ∷ [])))
  line_in_pieces (Forbid k) =
      after_head (codes " forbid" ++ 32 ∷ (decimal e.seq ++ 32 ∷ decimal k)) _ (ap (λ bs. codes " forbid " ++ bs) (two_then (decimal e.seq) (decimal k) (10 ∷ [])))
  line_in_pieces (Allow k) = after_head (codes " allow" ++ 32 ∷ (decimal e.seq ++ 32 ∷ decimal k)) _ (ap (λ bs. codes " allow " ++ bs) (two_then (decimal e.seq) (decimal k) (10 ∷ [])))
  line_in_pieces (Update q n) =
      after_head (codes " update" ++ 32 ∷ (decimal e.src ++ 32 ∷ (decimal e.seq ++ 32 ∷ (decimal n ++ 32 ∷ path_text (path net q))))) _
      (ap (λ bs. codes " update " ++ bs) (four_then (decimal e.src) (decimal e.seq) (decimal n) (path_text (path net q)) (10 ∷ [])))
