-- Steps that store in the lane's area alone change no other word; those of a commit without entries do.
use Rattle.std.proofs.Common.{◌≡◌, ℕ, ◌+◌, ◌/◌, true, false, List, [], ◌∷◌, None, set, slice_index, refl, sym, ap, ◌∙◌}
use Rattle.std.proofs.lemmas.Bool.{false≢true}
use Rattle.std.proofs.lemmas.List.{get_or-set_other, set-get_or}
use Rattle.solo_crash.specs.Leading.{Leads}
use Rattle.pm_objects.specs.declared.calls.Operation.TheVariants.{Commit}
use Rattle.solo_tx.proofs.StepKinds.{Each, HasOnly, HasQuietSteps, only_in_turn, only_nothing, only_one, only_persists, only_settles, only_stores, only_with_generation}
use Rattle.solo_tx.specs.Sequences.{commits, decides, decides_all, ends_call, retires_any}
use Rattle.solo_undo.specs.Sequences.{ends_generation, persists, retires}
use Rattle.solo_view.specs.Area.{area_word, is_in_area}
use Rattle.solo_view.specs.Founds.{FoundAlone, IsAlone}
use Rattle.solo_view.specs.Steps.{Step}
use Rattle.solo_view.specs.Steps.Step.{Draw, Drain, Flush, Load, Store, Tell}
use Rattle.solo_view.specs.View.{View}
use Rattle.solo_view.specs.Views.{after}
use Rattle.solo_world.specs.Sequences.{IsForeseen, one, settles, stores}
use Rattle.solo_world.specs.declared.lane.Span.{Span}

-- what was foreseen is what a lane alone finds
pub found_where_foreseen : (v : View) (s : Step) → IsForeseen v s → FoundAlone v s
found_where_foreseen v (Load w found) foreseen = λ alone. foreseen.1
found_where_foreseen v s foreseen = foreseen

-- a load, a flush, a drain, a telling or a draw, or a store in lane 0's area
abbrev pub StoresArea : Step → Type 0
StoresArea (Load w x) = Unit {0}
StoresArea (Store w x) = is_in_area 0 w ≡ true
StoresArea (Flush line) = Unit {0}
StoresArea Drain = Unit {0}
StoresArea (Tell operation reply) = Unit {0}
StoresArea (Draw n) = Unit {0}
StoresArea s = ⊥

one_alone : (v : View) (s : Step) → IsAlone v → FoundAlone v s → StoresArea s → (i : ℕ) → is_in_area 0 i ≡ false → slice_index (after v s).words i ≡ slice_index v.words i
one_alone v (Load w x) alone found area i outside = ap (λ y. slice_index (set v.words w y) i) (found alone) ∙ ap (λ (ws : List ℕ). slice_index ws i) (set-get_or v.words w 0)
one_alone v (Store w x) alone found area i outside = get_or-set_other v.words w i x 0 (λ same. false≢true (sym outside ∙ (ap (is_in_area 0) same ∙ area)))
one_alone v (Flush line) alone found area i outside = refl
one_alone v Drain alone found area i outside = refl
one_alone v (Tell operation reply) alone found area i outside = refl
one_alone v (Draw n) alone found area i outside = refl
one_alone v s alone found area i outside = absurd area

still_alone : (v : View) (s : Step) → StoresArea s → IsAlone v → IsAlone (after v s)
still_alone v (Load w x) area alone = alone
still_alone v (Store w x) area alone = alone
still_alone v (Flush line) area alone = alone
still_alone v Drain area alone = alone
still_alone v (Tell operation reply) area alone = alone
still_alone v (Draw n) area alone = alone
still_alone v s area alone = absurd area

pub area_alone : (v w : View) (steps : List Step) → IsAlone v → Leads v steps w → Each StoresArea steps → (i : ℕ) → is_in_area 0 i ≡ false → slice_index w.words i ≡ slice_index v.words i
unfolding Leads Each
area_alone v w [] alone leads each i outside = ap (λ (u : View). slice_index u.words i) leads
area_alone v w (s ∷ steps) alone leads each i outside = area_alone (after v s) w steps (still_alone v s each.0 alone) leads.3 each.1 i outside ∙ one_alone v s alone leads.1 each.0 i outside

-- ---- a commit without entries

area_steps : HasQuietSteps StoresArea
area_steps = record { load = λ w x. tt; flush = λ line. tt; drain = tt }

retires_in_area : HasOnly StoresArea retires
unfolding retires ends_generation
retires_in_area =
    only_with_generation StoresArea area_steps ends_generation
    (λ x. only_in_turn StoresArea (stores (area_word 0) (x + 1)) (persists (area_word 0 / 8)) (only_stores StoresArea area_steps (area_word 0) (x + 1) refl) (only_persists StoresArea area_steps (area_word 0 / 8)))

retires_any_in_area : (spans : List Span) → HasOnly StoresArea (retires_any spans)
unfolding retires_any
retires_any_in_area [] = only_nothing StoresArea
retires_any_in_area (s ∷ spans) = retires_in_area

ends_call_in_area : (n : ℕ) → HasOnly StoresArea (ends_call Commit None n)
unfolding ends_call
ends_call_in_area n = only_in_turn StoresArea (one (Tell Commit None)) (one (Draw n)) (only_one StoresArea (Tell Commit None) tt) (only_one StoresArea (Draw n) tt)

pub ends_in_area : (spans : List Span) (n : ℕ) → HasOnly StoresArea (commits spans [] n)
unfolding commits decides_all decides
ends_in_area spans n =
    only_in_turn StoresArea settles (decides_all spans [] n) (only_settles StoresArea area_steps)
    (only_in_turn StoresArea (ends_call Commit None n) (retires_any spans) (ends_call_in_area n) (retires_any_in_area spans))
