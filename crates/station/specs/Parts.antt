-- `count`: what its parts leave in the results area, and what it returns and leaves.
use Rattle.std.specs.Borrow.{Bor, MutBor}
use Rattle.std.specs.Prelude.{cond, List, [], ◌∷◌, ◌++◌, ℕ, ◌*◌, ltb, take, drop, replicate}
use Rattle.rules.specs.Limits.{script_bytes}
use Rattle.rules.specs.Joint.{room_of}
use Rattle.rules.specs.Calls.{run_text_in}
use Rattle.rules.specs.Areas.{bytes_of_script, count_call}
use Rattle.station.specs.declared.counts.Joint.{Joint}
use Rattle.station.specs.Station.{RunLeaves}

-- the 56 bytes of script i, with this share and this text: zeros past the count
abbrev pub part_of : Joint → ℕ → ℕ → List ℕ → List ℕ
part_of c i k t = cond (ltb i c.scripts) (bytes_of_script (run_text_in (room_of k) t c.rounds)) (replicate script_bytes 0)

-- the results area with the part of script i written so
abbrev pub put_part : List ℕ → ℕ → List ℕ → List ℕ
put_part area i part = take (i * script_bytes) area ++ (part ++ drop script_bytes (drop (i * script_bytes) area))

-- WHAT THE CALL RETURNS, and leaves in each area
abbrev pub CountLeaves :
    ℕ → ℕ → Bor (List ℕ) → Bor (List ℕ) → Bor (List ℕ) → Bor (List ℕ) → MutBor (List ℕ) → ℕ → ℕ → ℕ → ℕ → MutBor (List ℕ) → ℕ →
    MutBor (List ℕ) → MutBor (List ℕ) → Type 0
CountLeaves n rounds t₁ t₂ t₃ t₄ work k₁ k₂ k₃ k₄ results r work' results' =
    RunLeaves
    (count_call n rounds (t₁.now ∷ t₂.now ∷ t₃.now ∷ t₄.now ∷ []) work.now (k₁ ∷ k₂ ∷ k₃ ∷ k₄ ∷ []) results.now)
    r work'.now results'.now
