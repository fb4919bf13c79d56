-- How a lane's log ends.
use Rattle.std.proofs.Common.{◌≡◌, ℕ, ◌+◌, Bool, true, false, cond, List, [], ◌∷◌, ◌∙◌, ap}
use Rattle.pm_record.specs.declared.redo.Redo.{Redo}
use Rattle.pm_image.specs.Logs.{area_word, generation, is_sealed}
use Rattle.pm_recover.specs.Recovery.{is_raised}
use Rattle.pm_reopen.specs.Plan.{log_end, store_of}

abbrev by_cases : List ℕ → ℕ → Bool → Bool → List Redo
by_cases image lane sealed raised = cond sealed (store_of (area_word lane + 1) 0 ∷ []) (cond raised (store_of (area_word lane) (generation image lane + 1) ∷ []) [])

pub ends_sealed : (image : List ℕ) (lane : ℕ) → is_sealed image lane ≡ true → log_end image lane ≡ store_of (area_word lane + 1) 0 ∷ []
unfolding log_end
ends_sealed image lane is = ap (λ (b : Bool). by_cases image lane b (is_raised image lane)) is

pub ends_raised : (image : List ℕ) (lane : ℕ) → is_sealed image lane ≡ false → is_raised image lane ≡ true → log_end image lane ≡ store_of (area_word lane) (generation image lane + 1) ∷ []
unfolding log_end
ends_raised image lane unsealed is = ap (λ (b : Bool). by_cases image lane b (is_raised image lane)) unsealed ∙ ap (λ (b : Bool). by_cases image lane false b) is

pub ends_nothing : (image : List ℕ) (lane : ℕ) → is_sealed image lane ≡ false → is_raised image lane ≡ false → log_end image lane ≡ []
unfolding log_end
ends_nothing image lane unsealed is = ap (λ (b : Bool). by_cases image lane b (is_raised image lane)) unsealed ∙ ap (λ (b : Bool). by_cases image lane false b) is
