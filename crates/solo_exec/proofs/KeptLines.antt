-- Looks and the steps of a record take and give no lock: the locks behind them are of the same lines, and so are the blocks of a pool that was found under them.
use Rattle.std.proofs.Common.{◌≡◌, ⊎_elim, ℕ, zero, suc, ◌+◌, ◌-◌, ◌*◌, ◌<◌, ◌≤◌, leb, ltb, arith, true, false, ◌&&◌, Bool, IsTrue, List, [], ◌∷◌, map, set, Contains, Option, None, Some, IfSome, is_some, refl, sym, ap, ◌∙◌, subst, cond}
use Rattle.std.proofs.lemmas.Bool.{and_parts, false≢true, leb-true, ltb-true}
use Rattle.std.proofs.lemmas.List.Elements.{All-contains}
use Rattle.pm_image.proofs.Members.{first_member, later_member, member_cases, no_member}
use Rattle.solo_crash.proofs.AloneCourse.{StandsAlone}
use Rattle.solo_crash.proofs.AloneImages.{own_fits}
use Rattle.solo_crash.proofs.AloneMemory.{memory_of}
use Rattle.solo_crash.proofs.NoHeapFault.{passing_member}
use Rattle.solo_crash.specs.OpenCall.{IsUnderBlock}
use Rattle.pm_header.specs.declared.header.Header.{Header}
use Rattle.solo_lock.specs.Finding.{FindsObject, FindsObjects}
use Rattle.pm_objects.specs.declared.pool.PoolView.{PoolView}
use Rattle.solo_tx.specs.Learning.{Looks}
use Rattle.solo_view.specs.Blocks.{allocation_word, block_at, is_word}
use Rattle.solo_view.specs.Held.{is_guarded, is_under, is_under_found}
use Rattle.solo_view.specs.Rights.{is_written}
use Rattle.solo_view.specs.Steps.{Step}
use Rattle.solo_view.specs.Steps.Step.{Drain, Flush, Load, Store, Tell}
use Rattle.solo_view.specs.View.{Lock, View}
use Rattle.solo_view.specs.Views.{after, after_all, with_block}
use Rattle.solo_world.specs.Fits.{LockFits}
use Rattle.solo_world.specs.Opening.{Opening}
use Rattle.solo_exec.proofs.FilledSlots.{Fills, Next}

abbrev line_of : Lock → ℕ
line_of l = l.line

-- the lines of the locks that it holds
abbrev pub lines_of : View → List ℕ
lines_of v = map line_of v.locks

marked_line : (lanes : ℕ) (words : List ℕ) (w : ℕ) (l : Lock) → (with_block lanes words w l).line ≡ l.line
marked_line lanes words w l = at (is_word (allocation_word lanes words l.line) w) where
  at : (b : Bool) → (let m : Lock = cond b (record l { block = block_at lanes words l.line }) l in m.line) ≡ l.line
  at true = refl
  at false = refl

lines_marked : (lanes : ℕ) (words : List ℕ) (w : ℕ) (locks : List Lock) → map line_of (map (with_block lanes words w) locks) ≡ map line_of locks
lines_marked lanes words w [] = refl
lines_marked lanes words w (l ∷ locks) = (λ i. marked_line lanes words w l i ∷ lines_marked lanes words w locks i)

pub looks_lines : (n : ℕ) (v w : View) → Looks n v w → lines_of w ≡ lines_of v
unfolding Looks
looks_lines zero v w looks = ap (λ (u : View). lines_of u) looks
looks_lines (suc n) v w t = ap (λ (u : View). lines_of u) t.6 ∙ (lines_marked t.0.lanes (set t.0.words t.1 t.2) t.1 t.0.locks ∙ looks_lines n v t.0 t.3)

next_lines : (v : View) (n : ℕ) (s : Step) (k : ℕ) → Next n s k → lines_of (after v s) ≡ lines_of v
next_lines v n (Load w x) k next = lines_marked v.lanes (set v.words w x) w v.locks
next_lines v n (Store w x) k next = refl
next_lines v n (Flush line) k next = refl
next_lines v n Drain k next = refl
next_lines v n (Tell operation reply) k next = refl
next_lines v n s k next = absurd next

pub fills_lines : (v : View) (n : ℕ) (steps : List Step) (m : ℕ) → Fills n steps m → lines_of (after_all v steps) ≡ lines_of v
unfolding Fills after_all
fills_lines v n [] m fills = refl
fills_lines v n (s ∷ steps) m fills = fills_lines (after v s) fills.0 steps m fills.2 ∙ next_lines v n s fills.0 fills.1

-- a lock of lines that another list has, too
same_line : (xs ys : List Lock) → map line_of xs ≡ map line_of ys → (l : Lock) → Contains xs l → (m : Lock) × (Contains ys m × (m.line ≡ l.line))
same_line [] ys same l there = absurd (no_member l there)
same_line (x ∷ xs) [] same l there = absurd cc
same_line (x ∷ xs) (y ∷ ys) same l there =
    let head : x.line ≡ y.line = cc in
    let tail : map line_of xs ≡ map line_of ys = cc in
    ⊎_elim
    (λ (here : x ≡ l). (y, (first_member y ys, sym head ∙ ap line_of here)))
    (λ (later : Contains xs l). let m = same_line xs ys tail l later in (m.0, (later_member y ys m.0 m.1.0, m.1.1)))
    (member_cases x xs l there)

some_there : (found : Option ℕ) → IsTrue (is_some found) → (n : ℕ) × (found ≡ Some n)
some_there None some = absurd (false≢true some)
some_there (Some n) some = (n, refl)

-- the lock under which a word is written
record IsWrittenUnder (v : View) (i : ℕ) : Type 0 where
  lock : Lock
  held : Contains v.locks lock
  some : IsTrue (is_some lock.block)
  under : is_under i lock ≡ true

written_under : (v : View) (i : ℕ) → IsTrue (is_written v i) → IsWrittenUnder v i
written_under v i written =
    let t = passing_member (λ (l : Lock). l.write && is_some l.block && is_under i l) v.locks written in
    let l : Lock = t.0 in
    let both = and_parts (l.write && is_some l.block) (is_under i l) t.1.1 in
    let some = and_parts l.write (is_some l.block) both.0 in
    record { lock = l; held = t.1.0; some = some.1; under = both.1 }

-- a lane that works alone found one block under each line: where it may write a word now, that is of a block that it found before, under locks of these lines
module _ (o : Opening) (header : Header) (pool : PoolView) (v w : View) (before : StandsAlone o header pool v) (now : StandsAlone o header pool w) where
  block_of : (u : View) (stands : StandsAlone o header pool u) (l : Lock) (n : ℕ) → Contains u.locks l → l.block ≡ Some n → block_at o.lanes o.words l.line ≡ Some n
  block_of u stands l n held is =
      subst (λ (found : Option ℕ). IfSome found (λ lines. block_at o.lanes o.words l.line ≡ Some lines)) is (All-contains (LockFits o (memory_of u) 0) u.locks l (own_fits o header pool u stands).locks held).found

  same_some : (x y : ℕ) → Some x ≡ Some y → x ≡ y
  same_some x y same = cc

  pub written_before : FindsObjects v → lines_of w ≡ lines_of v → (i : ℕ) → IsTrue (is_written w i) → IsUnderBlock v i
  written_before finds lines i written =
      let at : IsWrittenUnder w i = written_under w i written in
      let t = same_line w.locks v.locks lines at.lock at.held in
      let lock : Lock = t.0 in
      let found : FindsObject v lock = finds lock t.1.0 in
      let there = some_there at.lock.block at.some in
      let here : block_at o.lanes o.words lock.line ≡ Some there.0 = ap (block_at o.lanes o.words) t.1.1 ∙ block_of w now at.lock there.0 at.held there.1 in
      let same : there.0 ≡ found.lines = same_some there.0 found.lines (sym here ∙ block_of v before lock found.lines t.1.0 found.block) in
      let within = under_from at.lock i at.under there.0 there.1 in
      let line = t.1.1 in
      record { lock = lock; lines = found.lines; held = t.1.0; found = found.block; from = omega (arith, line, within.0); to = omega (arith, line, same, within.1) }
    where
      under_by : (line n i : ℕ) → (leb (8 * line) i && ltb i (8 * (line + n)) && is_guarded (i - 8 * line)) ≡ true → (8 * line ≤ i) × (i < 8 * (line + n))
      under_by line n i is =
          let t = and_parts (leb (8 * line) i && ltb i (8 * (line + n))) (is_guarded (i - 8 * line)) is in
          let u = and_parts (leb (8 * line) i) (ltb i (8 * (line + n))) t.0 in (leb-true (8 * line) i u.0, ltb-true i (8 * (line + n)) u.1)

      under_from : (l : Lock) (i : ℕ) → is_under i l ≡ true → (n : ℕ) → l.block ≡ Some n → (8 * l.line ≤ i) × (i < 8 * (l.line + n))
      under_from l i is n found = under_by l.line n i (subst (λ (b : Option ℕ). is_under_found l.line b i ≡ true) found is)
