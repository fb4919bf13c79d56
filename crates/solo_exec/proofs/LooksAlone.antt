-- What a lane that is alone keeps while it looks at words.
use Rattle.std.proofs.Common.{◌≡◌, ℕ, zero, suc, set, refl, sym, ap, ◌∙◌, subst}
use Rattle.std.proofs.lemmas.List.{set-get_or}
use Rattle.solo_lock.proofs.Leads.{heap_still, heap_then, led_none, led_once, led_then}
use Rattle.solo_lock.specs.Leading.{IsLed, KeepsHeap}
use Rattle.solo_tx.specs.Learning.{Looks}
use Rattle.solo_view.specs.Founds.{IsAlone}
use Rattle.solo_view.specs.Steps.Step.{Load}
use Rattle.solo_view.specs.View.{View}
use Rattle.solo_view.specs.Views.{after}

-- the words, the call, its number and the entries are the same, and what the lane has of the heap
pub record IsSameBut (v w : View) : Type 0 where
  pub alone : IsAlone w
  pub lane : w.lane ≡ v.lane
  pub words : w.words ≡ v.words
  pub call : w.call ≡ v.call
  pub number : w.number ≡ v.number
  pub entries : w.entries ≡ v.entries
  pub locks : w.locks ≡ v.locks
  pub heap : KeepsHeap v w

pub looks_none : (v : View) → Looks 0 v v
unfolding Looks
looks_none v = refl

-- they lead on
pub looks_go_on : (n : ℕ) (v w : View) → Looks n v w → IsLed v w
unfolding Looks
looks_go_on zero v w is = subst (IsLed v) (sym is) (led_none v)
looks_go_on (suc n) v w t =
    let m : View = t.0 in
    let one : IsLed m (after m (Load t.1 t.2)) = led_once m (Load t.1 t.2) t.4 t.5.1 tt refl (record { zone_locks = refl; reserved = refl; freed = refl }) in
    led_then v m w (looks_go_on n v m t.3) (subst (IsLed m) (sym t.6) one)

pub looks_same : (n : ℕ) (v w : View) → Looks n v w → IsAlone v → IsSameBut v w
unfolding Looks
looks_same zero v w is alone = subst (IsSameBut v) (sym is) (record { alone = alone; lane = refl; words = refl; call = refl; number = refl; entries = refl; locks = refl; heap = heap_still v })
looks_same (suc n) v w t alone =
    let m : View = t.0 in
    let front : IsSameBut v m = looks_same n v m t.3 alone in
    let found : set m.words t.1 t.2 ≡ m.words = ap (set m.words t.1) (t.5.1 front.alone) ∙ set-get_or m.words t.1 0 in
    subst (IsSameBut v) (sym t.6) (record {
      alone = front.alone;
      lane = front.lane;
      words = found ∙ front.words;
      call = front.call;
      number = front.number;
      entries = front.entries;
      locks = ap (λ (u : View). u.locks) (sym t.6) ∙ t.7 ∙ front.locks;
      heap = heap_then v m (after m (Load t.1 t.2)) front.heap (record { zone_locks = refl; reserved = refl; freed = refl });
    })
