-- The steps by which a lane gives up what is pending at the end of its work: they store nothing and draw no number, keep its log, which is empty, and leave no
-- undrained word more.
use Rattle.std.proofs.Common.{◌≡◌, ◌⊎◌, ⊎_elim, inl, inr, ℕ, ◌+◌, ◌*◌, ◌/◌, ◌%◌, ◌<◌, ◌≤◌, All, Bool, true, false, cond, Contains, eqb, List, [], ◌∷◌, ◌++◌, map, not, refl, sym, ap, ◌∙◌, subst, arith}
use Rattle.std.specs.List.{list_any}
use Rattle.std.proofs.lemmas.Bool.{ne_eqb, not_from_false}
use Rattle.std.proofs.lemmas.List.Folds.{list_any_none}
use Rattle.std.proofs.lemmas.List.Elements.{All-contains_itself, All-weaker}
use Rattle.solo_blocks.specs.Giving.{vacates_block, vacates_chunks, vacates_in_run}
use Rattle.solo_action.specs.Canceling.{finishes, gives_reserved}
use Rattle.solo_crash.specs.Alone.{Rests}
use Rattle.solo_crash.specs.CallBlocks.{NewObject, block_of, reserved_object}
use Rattle.solo_crash.specs.Pending.{pending_before}
use Rattle.solo_epoch.specs.GivingBack.{gives_back}
use Rattle.pm_image.proofs.Members.{member_kept, member_made}
use Rattle.pm_image.specs.Logs.{slot_line}
use Rattle.pm_image.specs.declared.block.Block.{Block}
use Rattle.solo_lock.specs.Resting.{MayRest}
use Rattle.solo_tx.proofs.StepKinds.{Each, HasOnly, HasQuietSteps, only_in_turn, only_settles}
use Rattle.solo_view.specs.Changes.{drained, is_in_line, mark}
use Rattle.solo_view.specs.declared.change.Change.{Change}
use Rattle.solo_view.specs.Counts.{among, is_store, stores_among}
use Rattle.solo_view.specs.Founds.{IsAlone}
use Rattle.solo_view.specs.Log.{Log, no_log}
use Rattle.solo_view.specs.Log.Phase.{Idle, Open}
use Rattle.solo_view.specs.Steps.{Step}
use Rattle.solo_view.specs.Steps.Step.{Drain, Flush, Load, Vacate}
use Rattle.solo_view.specs.View.{Numbered, View}
use Rattle.solo_view.specs.Views.{after, after_all, log_after_drain}
use Rattle.solo_world.proofs.CrashLaw.{all_drained}
use Rattle.solo_world.proofs.CrashLogs.{drained_slot}
use Rattle.solo_world.proofs.Filled.{filled_slot}
use Rattle.solo_world.specs.Lawful.{OnlyFilled}
use Rattle.solo_world.specs.Records.{is_drained_slot}
use Rattle.solo_world.specs.Sequences.{by_view, settles}
use Rattle.solo_exec.proofs.QuietSlots.{marked_word}

-- a load, a flush, a drain, or a block given back
abbrev pub IsClosing : Step → Type 0
IsClosing (Load w x) = Unit {0}
IsClosing (Flush line) = Unit {0}
IsClosing Drain = Unit {0}
IsClosing (Vacate at bits) = Unit {0}
IsClosing s = ⊥

closing_steps : HasQuietSteps IsClosing
closing_steps = record { load = λ w x. tt; flush = λ line. tt; drain = tt }

vacates_closing : (lanes : ℕ) (b : Block) → IsClosing (vacates_block lanes b)
vacates_closing lanes b = either (eqb (b.lines % 64) 0) where
  either : (whole : Bool) → IsClosing (cond whole (vacates_chunks lanes b) (vacates_in_run b))
  either true = tt
  either false = tt

gives_closing : (lanes : ℕ) (ns : List NewObject) → Each IsClosing (gives_back lanes ns)
unfolding Each
gives_closing lanes [] = tt
gives_closing lanes (n ∷ ns) = (vacates_closing lanes (block_of n), gives_closing lanes ns)

pub finishes_closing : (v : View) → v.lane ≡ 0 → Each IsClosing (finishes v)
unfolding finishes by_view
finishes_closing v lane = only_in_turn IsClosing settles (gives_reserved v) (only_settles IsClosing closing_steps) (λ u same. gives_closing u.lanes (map reserved_object (pending_before v).reserved)) v lane

-- no call is open, or one of which nothing is recorded
abbrev pub IsEmptyLog : Log → Type 0
IsEmptyLog log = (log ≡ no_log Idle) ⊎ (log ≡ no_log (Open [] []))

-- the calls, the number and the log are the same, and each undrained word was undrained before
pub record Closes (v w : View) : Type 0 where
  pub entries : w.entries ≡ v.entries
  pub number : w.number ≡ v.number
  pub log : w.log ≡ v.log
  pub lane : w.lane ≡ v.lane
  pub changes : (c : Change) → Contains w.changes c → (d : Change) × (Contains v.changes d × (d.word ≡ c.word))

closes_then : (u v w : View) → Closes u v → Closes v w → Closes u w
closes_then u v w first second = record {
  entries = second.entries ∙ first.entries;
  number = second.number ∙ first.number;
  log = second.log ∙ first.log;
  lane = second.lane ∙ first.lane;
  changes = λ c there. let d = second.changes c there in let e = first.changes d.0 d.1.0 in (e.0, (e.1.0, e.1.1 ∙ d.1.1));
}

empty_drained : (v : View) → IsEmptyLog v.log → (left : List Change) → log_after_drain left v ≡ v.log
empty_drained v empty (c ∷ left) = refl
empty_drained v empty [] = ⊎_elim
    (λ (idle : v.log ≡ no_log Idle). ap (λ (l : Log). log_after_drain [] (record v { log = l })) idle ∙ sym idle)
    (λ (begun : v.log ≡ no_log (Open [] [])). ap (λ (l : Log). log_after_drain [] (record v { log = l })) begun ∙ sym begun) empty

closes_after : (v : View) (s : Step) → IsEmptyLog v.log → IsClosing s → Closes v (after v s)
closes_after v (Load w x) empty is = record { entries = refl; number = refl; log = refl; lane = refl; changes = λ c there. (c, (there, refl)) }
closes_after v (Flush line) empty is = record {
  entries = refl;
  number = refl;
  log = refl;
  lane = refl;
  changes = λ c there. let d = member_made (mark line) v.changes c there in (d.0, (d.1.0, sym (marked_word d.0 (is_in_line line d.0)) ∙ ap (λ (x : Change). x.word) d.1.1));
}
closes_after v Drain empty is = record {
  entries = refl;
  number = refl;
  log = empty_drained v empty (drained v.changes);
  lane = refl;
  changes = λ c there. (c, (member_kept (λ (d : Change). not d.flushed) v.changes c there, refl));
}
closes_after v (Vacate at bits) empty is = record { entries = refl; number = refl; log = refl; lane = refl; changes = λ c there. (c, (there, refl)) }
closes_after v s empty is = absurd is

pub closes_along : (v : View) (steps : List Step) → IsEmptyLog v.log → Each IsClosing steps → Closes v (after_all v steps)
unfolding Each after_all
closes_along v [] empty each = record { entries = refl; number = refl; log = refl; lane = refl; changes = λ c there. (c, (there, refl)) }
closes_along v (s ∷ steps) empty each =
    let one = closes_after v s empty each.0 in
    closes_then v (after v s) (after_all (after v s) steps) one (closes_along (after v s) steps (subst IsEmptyLog (sym one.log) empty) each.1)

closing_stores : (s : Step) → IsClosing s → is_store s ≡ false
closing_stores (Load w x) is = refl
closing_stores (Flush line) is = refl
closing_stores Drain is = refl
closing_stores (Vacate at bits) is = refl
closing_stores s is = absurd is

none_more : (b : Bool) (n : ℕ) → b ≡ false → n ≡ 0 → cond b 1 0 + n ≡ 0
none_more true n is none = absurd (let e : true ≡ false = is in cc)
none_more false n is none = let e : 0 + n ≡ 0 = omega (arith, none) in e

pub closing_stores_none : (steps : List Step) → Each IsClosing steps → stores_among steps ≡ 0
unfolding Each among
closing_stores_none [] each = refl
closing_stores_none (s ∷ steps) each = none_more (is_store s) (stores_among steps) (closing_stores s each.0) (closing_stores_none steps each.1)

-- a lane that was at rest is behind such steps
pub slots_at_rest : (v : View) → v.lane < v.lanes → MayRest v → (slot : ℕ) → slot < 64 → is_drained_slot v slot ≡ true
slots_at_rest v inside may slot low = ⊎_elim
    (λ (none : v.changes ≡ []). all_drained v slot none)
    (λ (filled : IsAlone v × OnlyFilled v). filled_slot v slot inside low filled.1) may

slot_still : (v w : View) (slot : ℕ) → Closes v w → is_drained_slot v slot ≡ true → is_drained_slot w slot ≡ true
slot_still v w slot closes before =
    not_from_false (list_any (is_in_line (slot_line w.lane slot)) w.changes)
    (list_any_none (is_in_line (slot_line w.lane slot)) w.changes
    (All-weaker (Contains w.changes) (λ (c : Change). is_in_line (slot_line w.lane slot) c ≡ false)
    (λ c there.
    let d = closes.changes c there in
    ne_eqb (c.word / 8) (slot_line w.lane slot) (λ same. drained_slot v slot d.0 before d.1.0 (ap (λ (x : ℕ). x / 8) d.1.1 ∙ (same ∙ ap (λ (l : ℕ). slot_line l slot) closes.lane))))
    w.changes (All-contains_itself w.changes)))

pub rests_closed : (v w : View) → v.lane < v.lanes → MayRest v → IsEmptyLog v.log → Closes v w → Rests w
rests_closed v w inside may empty closes = record { empty = subst IsEmptyLog (sym closes.log) empty; drained = λ slot low. slot_still v w slot closes (slots_at_rest v inside may slot low) }
