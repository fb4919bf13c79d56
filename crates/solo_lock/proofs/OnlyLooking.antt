-- A call that has begun goes on while its lane looks at words behind the lanes' areas.
use Rattle.std.proofs.Common.{◌≡◌, ℕ, ◌+◌, ◌*◌, ◌/◌, ◌<◌, ◌≤◌, All, List, [], ◌∷◌, map, get_or, length, slice_index, refl, sym, ap, ◌∙◌, subst, arith}
use Rattle.std.specs.List.{IsDistinct}
use Rattle.std.specs.Prelude.{nat_eq}
use Rattle.std.proofs.lemmas.List.{get_or-set_other, length-map}
use Rattle.std.proofs.Math.ListN.{get_or-map}
use Rattle.std.proofs.lemmas.List.Elements.{Contains-append_left}
use Rattle.solo_view.specs.Constants.{IsSameLane}
use Rattle.solo_view.specs.Founds.{FoundAlone}
use Rattle.solo_view.specs.Steps.Step.{Load}
use Rattle.solo_view.specs.View.{View, Lock}
use Rattle.solo_view.specs.Views.{after}
use Rattle.solo_world.proofs.Shapes.{IsOfSamePool, shape_seen}
use Rattle.solo_world.specs.Lanes.{last_number_of, lock_of, span_of}
use Rattle.solo_world.specs.Lawful.{generation_limit}
use Rattle.solo_world.specs.Records.{generation_of}
use Rattle.solo_world.specs.declared.lane.Lane.{Lane}
use Rattle.solo_lock.proofs.Leads.{led_none, led_once, led_same, led_then}
use Rattle.solo_lock.proofs.Undrained.{rest_led}
use Rattle.solo_lock.specs.Begun.{HoldsLines, IsBegun}
use Rattle.solo_lock.specs.Finding.{OnlyLooks}

pub looks_at_nothing : (v : View) → OnlyLooks v v
looks_at_nothing v = record { led = led_none v; same = refl; front = λ u low. refl; remembers = λ s there. there }

pub looks_then : (u v w : View) → OnlyLooks u v → OnlyLooks v w → OnlyLooks u w
looks_then u v w first second = record {
  led = led_then u v w first.led second.led;
  same = second.same ∙ ap (λ (z : View). record z { words = w.words; known = w.known; seen = w.seen; locks = w.locks }) first.same;
  front = λ i low. second.front i (let e = ap (λ (z : View). z.lanes) first.same in omega (arith, low, e)) ∙ first.front i low;
  remembers = λ s there. second.remembers s (first.remembers s there);
}

-- a load, whatever is found
pub looks_at : (v : View) (w x : ℕ) → w < length v.words → 512 * (1 + 2 * v.lanes) ≤ w → FoundAlone v (Load w x) → OnlyLooks v (after v (Load w x))
looks_at v w x inside behind found = record {
  led = led_once v (Load w x) inside found tt refl (record { zone_locks = refl; reserved = refl; freed = refl });
  same = refl;
  front = λ u low. get_or-set_other v.words w u x 0 (λ same. omega (arith, same, low, behind));
  remembers = λ s there. Contains-append_left v.seen (Load w x ∷ []) s there;
}

abbrev lines_of : List Lock → List ℕ
lines_of locks = map (λ (l : Lock). l.line) locks

-- what holds of each line, of locks of the same lines
lines_inside : (n : ℕ) (locks others : List Lock) → lines_of locks ≡ lines_of others → All (λ (l : Lock). l.line < n) others → All (λ (l : Lock). l.line < n) locks
lines_inside n locks others same all k d low =
    let one = length-map locks (λ (l : Lock). l.line) in
    let two = length-map others (λ (l : Lock). l.line) in
    let more = ap length same in
    let line : (get_or locks k d).line ≡ (get_or others k d).line =
    sym (get_or-map (λ (l : Lock). l.line) locks k d) ∙ ap (λ ls. get_or ls k d.line) same ∙ get_or-map (λ (l : Lock). l.line) others k d in
    let e = all k d (let e : k < length others = omega (arith, low, one, two, more) in e) in
    omega (arith, line, e)

pub lines_kept : (v w : View) → length w.words ≡ length v.words → lines_of w.locks ≡ lines_of v.locks → HoldsLines v → HoldsLines w
lines_kept v w size same lines = record {
  inside = subst (λ n. All (λ (l : Lock). l.line < n / 8) w.locks) (sym size) (lines_inside (length v.words / 8) w.locks v.locks same lines.inside);
  once = subst (IsDistinct nat_eq) (sym same) lines.once;
}

pub begun_looks : {M : Type 0} (at : M → View → Type 0) (lane new : Lane M) (v w : View) → IsBegun at lane v → OnlyLooks v w → at new.memory w → map lock_of new.locks.items ≡ w.locks → lines_of w.locks ≡ lines_of v.locks
    → new ≡ record lane { memory = new.memory; locks = new.locks } → IsBegun at new w
begun_looks {M} at lane new v w is looks there held lines fields =
    let same = looks.same in
    let lane_same : IsSameLane v w = led_same v w looks.led in
    let pool : IsOfSamePool lane new = record { pool = ap (λ (l : Lane M). l.pool) fields; shape = ap (λ (l : Lane M). l.shape) fields } in
    let area = is.area in
    let few = area.lane in
    let lane_is = ap (λ (z : View). z.lane) same in
    let lanes_are = ap (λ (z : View). z.lanes) same in
    let size = lane_same.size in
    record {
      seen = record {
        memory = there;
        pool = lane_same.pool ∙ (is.seen.pool ∙ sym pool.pool);
        shape = shape_seen lane new v w pool lane_same is.seen.shape;
        locks = held;
        records = ap (λ (l : Lane M). l.records.items) fields ∙ (is.seen.records ∙ ap (λ (z : View). map span_of z.log.records) (sym same));
        drawn = λ number some. ap (λ (z : View). z.number) same ∙ is.seen.drawn number (sym (ap (λ (l : Lane M). l.drawn) fields) ∙ some);
        last = ap (λ (l : Lane M). l.last) fields ∙ (is.seen.last ∙ ap (λ (z : View). last_number_of z.entries) (sym same));
      };
      unharmed = ap (λ (l : Lane M). l.error) fields ∙ is.unharmed;
      unstopped = ap (λ (l : Lane M). l.stopped) fields ∙ is.unstopped;
      unlisted = ap (λ (l : Lane M). l.entries.items) fields ∙ is.unlisted;
      log = ap (λ (z : View). z.log) same ∙ is.log;
      undrawn = ap (λ (z : View). z.number) same ∙ is.undrawn;
      undrained = rest_led v w looks.led is.undrained;
      untold = ap (λ (z : View). z.call) same ∙ is.untold;
      area = record {
        lane = (let low = area.lane in omega (arith, low, lane_is, lanes_are));
        few = (let low = area.few in omega (arith, low, lane_is));
        inside = (let low = area.inside in omega (arith, low, lane_is, size));
        below = (let below = area.below in
            let kept : generation_of w ≡ generation_of v = ap (λ n. slice_index w.words (512 + 1024 * n)) lane_is ∙ looks.front (512 + 1024 * v.lane) (omega (arith, few)) in
            subst (λ n. n < generation_limit) (sym kept) below);
      };
      may_come = (let m = is.may_come in record { found = m.found; seen = looks.remembers _ m.seen; below = m.below });
      lines = lines_kept v w size lines is.lines;
    }
