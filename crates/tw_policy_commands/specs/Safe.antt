-- What `safe` writes (own).
use Rattle.std.specs.Prelude.{ℕ, ◌==◌, Bool, List, [], ◌∷◌, ◌++◌, codes, length, map, if◌then◌else◌}
use Rattle.std.specs.declared.vec.Vec.{Vec}
use Rattle.std.specs.Fmt.{decimal}
use Rattle.std.specs.List.{flat_map, range_with_len}
use Rattle.tw_commands.specs.declared.cause.Status.TheVariants.{Done}
use Rattle.tw_commands.specs.ForCase.{for_case}
use Rattle.tw_commands.specs.Output.{Output}
use Rattle.tw_elimination.specs.Bound.{is_solved, rests_before}
use Rattle.tw_elimination.specs.Placing.{has_one_list}
use Rattle.tw_elimination.specs.Rounds.{left_in, rounds_of}
use Rattle.tw_elimination.specs.Wheel.{wheel_of}
use Rattle.tw_event.specs.declared.event.PathNo.{PathNo}
use Rattle.tw_model.specs.Case.{Case}
use Rattle.tw_model.specs.Net.{Net, path}
use Rattle.tw_policy.specs.DisputeWheel.{Pivot}
use Rattle.tw_report.specs.declared.words.Word.{Word}
use Rattle.tw_report.specs.Words.{line, path_text, word_text}
use Rattle.tw_text.specs.Reading.{case_of}

-- the words of router v before so many paths
abbrev pub head_words : ℕ → ℕ → List (List ℕ)
head_words v count = codes "router" ∷ decimal v ∷ (if count == 1 then codes "uses" ∷ [] else codes "may" ∷ codes "use" ∷ [])

-- router v, with the paths that it has left
abbrev pub left_words : Net → ℕ → List PathNo → List (List ℕ)
left_words net v left = head_words v (length left) ++ map (λ q. path_text (path net q)) left

-- the texts of each of these lists of words
abbrev pub texts : {Z : Type 0} → List (Vec Word Z) → List (List (List ℕ))
texts lines = map (λ words. map word_text words.items) lines

-- whether the case is robust too
abbrev pub safe_word : Bool → List ℕ
safe_word robust = if robust then codes "robust" else codes "safe"

-- that the case rests before this time
abbrev pub safe_lines : ℕ → Bool → List ℕ
safe_lines time robust = line (codes "rests" ∷ codes "before" ∷ decimal time ∷ []) ++ line (codes "verdict" ∷ safe_word robust ∷ [])

-- a pivot of a dispute wheel, its spoke and its rim path
abbrev pub wheel_words : Net → Pivot → List (List ℕ)
wheel_words net p = codes "wheel" ∷ decimal p.router ∷ path_text (path net p.spoke) ∷ path_text (path net p.rim) ∷ []

-- the pivots of a dispute wheel, and that there is one
abbrev pub unsafe_lines : List (List (List ℕ)) → List ℕ
unsafe_lines wheel = flat_map line wheel ++ line (codes "verdict" ∷ codes "wheel" ∷ [])

-- the verdict after n rounds: from when on the case rests, where each router has one path left, and whether all paths stand in
-- one list; else a dispute wheel
abbrev pub verdict_lines : Case → ℕ → List ℕ
verdict_lines case n =
    if is_solved case n then safe_lines (rests_before case n) (has_one_list case.net) else unsafe_lines (map (wheel_words case.net) (wheel_of case n))

-- the name of the format, the number of rounds, the routers, and the verdict
unfoldable pub answer_text : ℕ → List (List (List ℕ)) → List ℕ → List ℕ
answer_text n routers verdict =
    line (codes "spp-safe" ∷ codes "1" ∷ []) ++ (line (codes "rounds" ∷ decimal n ∷ []) ++ (flat_map line routers ++ verdict))

-- what elimination leaves after n rounds
abbrev pub safe_text : Case → ℕ → List ℕ
safe_text case n = answer_text n (map (λ v. left_words case.net v (left_in case n v)) (range_with_len 0 case.net.nodes)) (verdict_lines case n)

-- what it leaves at the halt
abbrev pub safety_of : Case → Output
safety_of case = record { status = Done; text = safe_text case (rounds_of case) }

-- the same for the case of a text, or why it has none
abbrev pub safe_output : List ℕ → Output
safe_output input = for_case safety_of (case_of input)
