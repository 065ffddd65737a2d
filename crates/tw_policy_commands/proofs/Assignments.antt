-- The lines of assignments, one more.
use Rattle.std.proofs.Common.{◌≡◌, ℕ, ◌+◌, ◌<◌, ◌≤◌, Bool, List, [], ◌∷◌, ◌++◌, codes, Global, drop, get_or, length, ap, sym, ◌∙◌, subst, arith}
use Rattle.std.specs.declared.vec.Vec.{Vec}
use Rattle.std.specs.Fmt.{decimal}
use Rattle.std.specs.List.{All}
use Rattle.std.proofs.lemmas.List.{drop_all, drop_more, length-map}
use Rattle.tw_elimination.proofs.Marking.{row_at}
use Rattle.tw_event.specs.declared.event.PathNo.{PathNo}
use Rattle.tw_instance.specs.Tables.{items}
use Rattle.tw_model.specs.Case.{Case}
use Rattle.tw_model.specs.Net.{Net}
use Rattle.tw_policy_commands.specs.Stable.{assignment_lines, assignment_text, rib_line, rib_lines, stable_text}
use Rattle.tw_stable.specs.Splitting.{are_enough, found_by}

pub rib_step : (net : Net) (ribs : List PathNo) (k : ℕ) (d : PathNo) → k < length ribs
    → rib_lines net k (drop k ribs) ≡ rib_line net k (get_or ribs k d) ++ rib_lines net (k + 1) (drop (k + 1) ribs)
rib_step net ribs k d low = ap (rib_lines net k) (drop_more ribs k d low)

pub rib_end : (net : Net) (ribs : List PathNo) (k : ℕ) → length ribs ≤ k → rib_lines net k (drop k ribs) ≡ []
rib_end net ribs k over = ap (rib_lines net k) (drop_all k ribs over)

-- the assignment at a place of the code's table
pub ribs_at : (rows : List (Vec PathNo Global)) (k : ℕ) (x : Vec PathNo Global) (ribs : List PathNo) → k < length rows → x ≡ get_or rows k x → ribs ≡ x.items → ribs ≡ get_or (items rows) k []
ribs_at rows k x ribs low is e = e ∙ sym (row_at rows k x low is)

pub assignment_step : (net : Net) (rows : List (Vec PathNo Global)) (k : ℕ) (x : Vec PathNo Global) (ribs : List PathNo) → k < length rows → x ≡ get_or rows k x → ribs ≡ x.items
    → assignment_lines net (k + 1) (drop k (items rows)) ≡ assignment_text net (k + 1) ribs ++ assignment_lines net ((k + 1) + 1) (drop (k + 1) (items rows))
assignment_step net rows k x ribs low is e =
    let same : length (items rows) ≡ length rows = length-map rows (λ (v : Vec PathNo Global). v.items) in
    ap (assignment_lines net (k + 1)) (drop_more (items rows) k [] (omega arith))
    ∙ ap (λ r. assignment_text net (k + 1) r ++ assignment_lines net ((k + 1) + 1) (drop (k + 1) (items rows))) (sym (ribs_at rows k x ribs low is e))

pub assignment_end : (net : Net) (rows : List (Vec PathNo Global)) (k : ℕ) → length rows ≤ k → assignment_lines net (k + 1) (drop k (items rows)) ≡ []
assignment_end net rows k over =
    let same : length (items rows) ≡ length rows = length-map rows (λ (v : Vec PathNo Global). v.items) in
    ap (assignment_lines net (k + 1)) (drop_all k (items rows) (omega arith))

-- what was found is the answer for its case
pub stable_is : (case : Case) (splits : ℕ) (net : Net) (rows : List (Vec PathNo Global)) (list : List (List PathNo)) (all : Bool) → net ≡ case.net → items rows ≡ list → list ≡ found_by splits case
    → all ≡ are_enough splits case → stable_text net (items rows) all ≡ stable_text case.net (found_by splits case) (are_enough splits case)
stable_is case splits net rows list all e f g h =
    ap (λ n. stable_text n (items rows) all) e ∙ (ap (λ l. stable_text case.net l all) (f ∙ g) ∙ ap (stable_text case.net (found_by splits case)) h)
