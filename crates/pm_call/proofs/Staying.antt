-- What a lane holds and has pending stays, as it notes what it knows, tells an operation and opens a call.
use Rattle.std.proofs.Common.{◌≡◌, ℕ, ◌/◌, ◌<◌, ◌≤◌, List, [], ◌∷◌, ◌++◌, ◌||◌, length, map, Option, refl, sym, ◌∙◌, ap, subst}
use Rattle.std.specs.List.{AllByRecursion}
use Rattle.pm_layout.specs.Chunks.{words_of}
use Rattle.pm_model.specs.Pending.{Pending, max_actions}
use Rattle.pm_objects.specs.declared.calls.Operation.{Operation}
use Rattle.pm_objects.specs.declared.history.Value.{Value}
use Rattle.pm_view.specs.Changes.{Undrained}
use Rattle.pm_view.specs.Claims.{Claim, holds}
use Rattle.pm_view.specs.Log.{Log}
use Rattle.pm_view.specs.Places.{Small}
use Rattle.pm_view.specs.Steps.Step.{Tell}
use Rattle.pm_view.specs.View.{Told, View}
use Rattle.pm_view.specs.Views.{actions_told, after}
use Rattle.pm_view.specs.Steps.{Step}
use Rattle.pm_world.specs.LaneFields.{listed}
use Rattle.pm_world.specs.declared.lane.HeldLock.{HeldLock}
use Rattle.pm_crash.specs.Calls.{pending_after, pending_of, pending_with}
use Rattle.pm_plan.specs.Notes.{AreNotes, Note, noted}
use Rattle.pm_plan.proofs.Notes as notes
use Rattle.pm_lock.specs.Holding.{IsHeldAs}
use Rattle.pm_lock.proofs.Planned.{all_weaker}
use Rattle.pm_call.specs.Held.{HoldsAll, KnowsOwn}
use Rattle.pm_call.specs.Waiting.{HasPending, IsWord, listed_set, pending_now, uncalled}
use Rattle.pm_call.proofs.Frames.{noting}

-- ---- LOCKS, and blocks of its own

holds_noted : (ns : List Note) (t : List Claim) (line : ℕ) → holds (noted ns t) line ≡ holds t line
holds_noted ns t line i = notes.locked_same ns t i line || notes.reads_same ns t i line

-- through notes
module _ (v : View) (ns : List Note) (changes : List Undrained) (calls : List Step) (log : Log) where
  abbrev next : View
  next = noting v ns changes calls log

  held_noted : (l : HeldLock) → IsHeldAs v.claims l → IsHeldAs next.claims l
  held_noted l h = ((λ e. ap (λ f. f l.line) (notes.locked_same ns v.claims) ∙ h.0 e), (λ e. ap (λ f. f l.line) (notes.reads_same ns v.claims) ∙ h.1 e))

  pub noted_holds : (locks : List HeldLock) → HoldsAll v locks → HoldsAll next locks
  noted_holds locks h = record {
    each = record { once = h.each.once; inside = h.each.inside; held = all_weaker (IsHeldAs v.claims) (IsHeldAs next.claims) locks held_noted h.each.held };
    only = λ line e. h.only line (sym (holds_noted ns v.claims line) ∙ e);
  }

  pub noted_own : AreNotes v.fixed.shape v.claims ns → KnowsOwn v → KnowsOwn next
  noted_own are own c i has none = own c i (sym (notes.mine_same v.fixed.shape ns v.claims are (Small c i)) ∙ has) (sym (ap (λ f. f c) (notes.class_same ns v.claims)) ∙ none)

-- through whatever leaves the claims and the shape
pub holds_with : (v w : View) (locks : List HeldLock) → w.fixed ≡ v.fixed → w.claims ≡ v.claims → HoldsAll v locks → HoldsAll w locks
holds_with v w locks fixed claims h = record {
  each = record {
    once = h.each.once;
    inside = subst (λ f. AllByRecursion (λ (l : HeldLock). l.line < words_of f.shape / 8) locks) (sym fixed) h.each.inside;
    held = subst (λ t. AllByRecursion (IsHeldAs t) locks) (sym claims) h.each.held;
  };
  only = λ line e. h.only line (ap (λ t. holds t line) (sym claims) ∙ e);
}

-- ---- WHAT IS PENDING

pub pending_more : (told : List Told) (t : Told) (p : Pending) → pending_after (told ++ t ∷ []) p ≡ pending_with t.operation t.reply (pending_after told p)
unfolding pending_after
pending_more [] t p = refl
pending_more (u ∷ told) t p = pending_more told t (pending_with u.operation u.reply p)

pub has_pending : (v w : View) → pending_now w ≡ pending_now v → listed w.actions ≡ listed v.actions → HasPending v → HasPending w
has_pending v w now lists h = record {
  lists = lists ∙ h.lists ∙ ap (λ (p : Pending). map listed_set p.sets) (sym now);
  no_frees = ap (λ (p : Pending). p.frees) now ∙ h.no_frees;
  none_reserved = ap (λ (p : Pending). p.reserved) now ∙ h.none_reserved;
  on_time = ap (λ (p : Pending). p.late) now ∙ h.on_time;
  few = subst (λ (p : Pending). length p.sets ≤ max_actions) (sym now) h.few;
  words = subst (λ (p : Pending). AllByRecursion IsWord p.sets) (sym now) h.words;
}

-- an operation that asks for none is told
pub now_told : (v : View) (op : Operation) (reply : Option Value) → ((p : Pending) → pending_with op reply p ≡ p) → pending_now (after v (Tell op reply)) ≡ pending_now v
now_told v op reply plain = pending_more v.call (record { operation = op; reply = reply }) (pending_of v.entries) ∙ plain (pending_now v)

pub pending_told : (v : View) (op : Operation) (reply : Option Value) → ((p : Pending) → pending_with op reply p ≡ p) → actions_told op reply v.actions ≡ v.actions → HasPending v → HasPending (after v (Tell op reply))
pending_told v op reply plain same = has_pending v (after v (Tell op reply)) (now_told v op reply plain) (ap listed same)

-- a call opens after one that has its number
pub pending_opened : (v w : View) → w.call ≡ [] → w.entries ≡ v.entries → w.actions ≡ v.actions → HasPending (uncalled v) → HasPending w
pending_opened v w call entries actions = has_pending (uncalled v) w
    (ap (λ c. pending_after c (pending_of w.entries)) call ∙ ap (λ es. pending_after [] (pending_of es)) entries)
    (ap listed actions)
