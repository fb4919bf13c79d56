-- THE ROOT WORD IN THE HISTORY: by every lawful step of every lane, what each lane saw of it under locks
-- that it holds is so after the calls so far, whichever of them are kept.
use Rattle.std.proofs.Common.{◌≡◌, ◌≢◌, inl, ⊎_elim, ℕ, suc, ◌<◌, ◌≤◌, ◌==◌, ◌||◌, not, Bool, true, false, cond, List, [], ◌∷◌, refl, sym, ap, ◌∙◌, subst, arith}
use Rattle.std.proofs.lemmas.Bool.{both_ways, cases_Bool, cases_eq, eqb-true}
use Rattle.pm_layout.specs.declared.shape.Shape.{Shape}
use Rattle.pm_view.specs.Claims.{Claim, holds, pictured}
use Rattle.pm_view.specs.Entries.{Entry, first_of_two, redos}
use Rattle.pm_view.specs.Founds.{Found}
use Rattle.pm_view.specs.Log.{Open, Recorded, is_early, phase_drawn}
use Rattle.pm_view.specs.Places.{RootWord}
use Rattle.pm_view.specs.Steps.{Step}
use Rattle.pm_view.specs.Steps.Step.{Load, Draw}
use Rattle.pm_view.specs.View.{View}
use Rattle.pm_view.specs.Views.{after}
use Rattle.pm_world.specs.States.{State, diff, over, replay}
use Rattle.pm_world.specs.Sights.{call_in, sight_of}
use Rattle.pm_world.specs.Lanes.{owns}
use Rattle.pm_world.specs.Laws.{Turn}
use Rattle.pm_world.specs.Lawful.{IsLawful}
use Rattle.pm_world.specs.Memory.{Memory, PoolWord}
use Rattle.pm_world.specs.Moves.{Moves}
use Rattle.pm_world.specs.Course.{past_drawn}
use Rattle.pm_world.specs.World.{Opening, Views, Past, World, ghost_of, origin, settled_words}
use Rattle.pm_world.proofs.EveryStep.{every_step}
use Rattle.pm_world.proofs.Replays.{put1_here, put1_else, replay_same}
use Rattle.pm_world.proofs.StoreEntry.{root_owned}
use Rattle.pm_crash.specs.Footprints.{KeepsDecided, kept_bits}
use Rattle.pm_crash.specs.Roots.{HoldsGuards, HoldsItsRoots, HoldsRoots, RootsAreSeen, is_root_line, leaves_root, saw_root, sets_root}
use Rattle.pm_crash.specs.Spelled.{number}
use Rattle.pm_crash.proofs.RootClaims.{IsNew, saw_held, setting, unset}
use Rattle.pm_crash.proofs.Roots.{Tells, kept_apart, some_known, tells}
use Rattle.pm_crash.proofs.RootSteps.{goes, is_other, load_sees, loads}

-- ---- WHAT IS SEEN, of other bits and by other claims

-- a root word that stays is seen alike
pub seen_alike : (sh : Shape) (t : List Claim) (s s' : State) → s' RootWord ≡ s RootWord → RootsAreSeen sh t s → RootsAreSeen sh t s'
seen_alike sh t s s' e r = record {
  same = λ l x q n. ap number e ∙ r.same l x q n;
  other = λ l x q n. ap (λ w. is_root_line (number w) l) e ∙ r.other l x q n;
}

-- so is what was seen before
pub seen_less : (sh : Shape) (t t' : List Claim) (s : State) → ((line x : ℕ) → saw_root sh t' line x ≡ true → saw_root sh t line x ≡ true)
    → RootsAreSeen sh t s → RootsAreSeen sh t' s
seen_less sh t t' s f r = record {
  same = λ l x q n. r.same l x (f l x q) n;
  other = λ l x q n. r.other l x (f l x q) n;
}

-- of each lane, whichever calls are kept
abbrev pub SeenKept : Opening → Past → Shape → List Claim → Type 0
SeenKept o g sh t = (keep : ℕ → Bool) → KeepsDecided g keep → RootsAreSeen sh t (kept_bits o g keep g.length)

-- where no number is drawn it stays
pub kept_on : (o : Opening) (g g' : Past) (sh : Shape) (t : List Claim) → g'.drew ≡ g.drew → g'.length ≡ g.length
    → ((m : ℕ) → g.decided m ≡ true → g'.decided m ≡ true) → SeenKept o g sh t → SeenKept o g' sh t
kept_on o g g' sh t drew length decided f keep d =
    subst (λ n. RootsAreSeen sh t (replay keep (origin o) (λ m. call_in (g'.drew m)) n)) (sym length)
    (subst (λ (dr : ℕ → View). RootsAreSeen sh t (replay keep (origin o) (λ m. call_in (dr m)) g.length)) (sym drew)
    (f keep (λ m l e. d m (subst (λ n. m < n) (sym length) l) (decided m e))))

-- ---- WHERE A LANE SETS THE WORD

-- the call that is drawn has a number, where it sets the word
drawn_unset : (n : ℕ) (rs : List Recorded) (es : List Entry) → (is_early (phase_drawn n rs es) || not (sets_root (redos es))) ≡ true → sets_root (redos es) ≡ false
drawn_unset n [] [] e = refl
drawn_unset n [] (d ∷ es) e = unset_by (sets_root (redos (d ∷ es))) e
  where
    unset_by : (q : Bool) → not q ≡ true → q ≡ false
    unset_by true e = sym e
    unset_by false e = refl
drawn_unset n (r ∷ rs) es e = unset_by (sets_root (redos es)) e
  where
    unset_by : (q : Bool) → not q ≡ true → q ≡ false
    unset_by true e = sym e
    unset_by false e = refl

-- it owns it
setter_owns : (o : Opening) (mem : Memory) (views : Views) (g : Past) → World o mem views g → (k : ℕ) → k < o.lanes
    → HoldsItsRoots (views k).fixed.shape (views k).claims (views k).log → sets_root (redos (views k).log.entries) ≡ true
    → owns g.geo (settled_words o g) (sight_of (views k)).hold RootWord 0 ≡ true
setter_owns o mem views g x k ink h s =
    let e = setting (λ (e : Entry). HoldsRoots (views k).fixed.shape (views k).claims e.value) (views k).log.entries h.entered s in
    let z = some_known (pictured (views k).fixed.shape (views k).claims 64) (HoldsGuards (views k).claims) e.1.1 in
    root_owned o mem views g x k ink z.0 z.1 z.2 0

-- ---- A STEP OF LANE k
module _ (o : Opening) (old mem : Memory) (views new : Views) (g : Past) (k : ℕ) (x : World o old views g) (ink : k < o.lanes)
    (h : (j : ℕ) → j < o.lanes → HoldsItsRoots (views j).fixed.shape (views j).claims (views j).log)
    (f : (j : ℕ) → j < o.lanes → leaves_root (views j).log ≡ true → SeenKept o g (views j).fixed.shape (views j).claims) where
  -- a fact of each view, by that of lane k and those of the others
  each : (P : View → Type 0) (v : View) → Turn views new k v → P v → ((j : ℕ) → j < o.lanes → j ≢ k → P (views j)) → (j : ℕ) → j < o.lanes → P (new j)
  each P v t own others j l = ⊎_elim
      (λ (e : j ≡ k). subst (λ i. P (new i)) (sym e) (subst P (sym t.here) own))
      (λ (ne : j ≢ k). subst P (sym (t.else_ j ne)) (others j l ne))
      (cases_eq j k)

  abbrev Holding : View → Type 0
  Holding v = HoldsItsRoots v.fixed.shape v.claims v.log

  abbrev Seeing : Past → View → Type 0
  Seeing g v = leaves_root v.log ≡ true → SeenKept o g v.fixed.shape v.claims

  -- ---- neither a load nor the draw
  module _ (s : Step) (law : IsLawful (views k) s) (t : Turn views new k (after (views k) s)) (u : is_other s ≡ true) (g' : Past)
      (drew : g'.drew ≡ g.drew) (length : g'.length ≡ g.length) (decided : (m : ℕ) → g.decided m ≡ true → g'.decided m ≡ true) where
    pub other_holds : (j : ℕ) → j < o.lanes → HoldsItsRoots (new j).fixed.shape (new j).claims (new j).log
    other_holds = let n = goes o old views g x k ink (h k ink) s law u in
        each Holding (after (views k) s) t (subst (λ sh. HoldsItsRoots sh (after (views k) s).claims (after (views k) s).log) (sym n.0) n.1.holds_) (λ j l ne. h j l)

    pub other_sees : (j : ℕ) → j < o.lanes → leaves_root (new j).log ≡ true → SeenKept o g' (new j).fixed.shape (new j).claims
    other_sees = let n = goes o old views g x k ink (h k ink) s law u in
        each (Seeing g') (after (views k) s) t
        (λ l. subst (λ sh. SeenKept o g' sh (after (views k) s).claims) (sym n.0)
        (λ keep d. record {
          same = λ line y q e. let b = n.1.less l line y q in (kept_on o g g' (views k).fixed.shape (views k).claims drew length decided (f k ink b.0) keep d).same line y b.1 e;
          other = λ line y q e. let b = n.1.less l line y q in (kept_on o g g' (views k).fixed.shape (views k).claims drew length decided (f k ink b.0) keep d).other line y b.1 e;
        }))
        (λ j l ne e. kept_on o g g' (views j).fixed.shape (views j).claims drew length decided (f j l e))

  -- ---- a load
  module _ (w y : ℕ) (law : IsLawful (views k) (Load w y)) (m : Moves k (Load w y) old mem) (t : Turn views new k (after (views k) (Load w y))) where
    found : Found (views k) (Load w y)
    found = (every_step (Load w y) o old mem views new g k x ink law m t).1

    pub load_holds : (j : ℕ) → j < o.lanes → HoldsItsRoots (new j).fixed.shape (new j).claims (new j).log
    load_holds = each Holding (after (views k) (Load w y)) t (loads o old views g x k ink (h k ink) w y found (views k).log.phase) (λ j l ne. h j l)

    -- what is new is the memory's word
    module _ (keep : ℕ → Bool) (d : KeepsDecided g keep) (line z : ℕ) (n : IsNew (views k).claims w y line z) where
      value : old (PoolWord 64) ≡ z
      value = ap (λ i. old (PoolWord i)) (sym (eqb-true w 64 n.word)) ∙ (sym m.1 ∙ eqb-true y z n.value)

      told : Tells o old views g x h k line n.held n.free keep d
      told = tells o old views g x h k line n.held n.free keep d

      new_same : is_root_line z line ≡ true → number (kept_bits o g keep g.length RootWord) ≡ z
      new_same e = ⊎_elim
          (λ (q : number (kept_bits o g keep g.length RootWord) ≡ old (PoolWord 64)). q ∙ value)
          (λ (q : (is_root_line (old (PoolWord 64)) line ≡ false) × (is_root_line (number (kept_bits o g keep g.length RootWord)) line ≡ false)).
          absurd (both_ways (is_root_line z line) (ap (λ i. is_root_line i line) (sym value) ∙ q.0) e))
          told

      new_other : is_root_line z line ≡ false → is_root_line (number (kept_bits o g keep g.length RootWord)) line ≡ false
      new_other e = ⊎_elim
          (λ (q : number (kept_bits o g keep g.length RootWord) ≡ old (PoolWord 64)). ap (λ i. is_root_line i line) (q ∙ value) ∙ e)
          (λ (q : (is_root_line (old (PoolWord 64)) line ≡ false) × (is_root_line (number (kept_bits o g keep g.length RootWord)) line ≡ false)). q.1)
          told

    pub load_sees_roots : (j : ℕ) → j < o.lanes → leaves_root (new j).log ≡ true → SeenKept o g (new j).fixed.shape (new j).claims
    load_sees_roots = each (Seeing g) (after (views k) (Load w y)) t
        (λ l keep d. record {
          same = λ line z q e. ⊎_elim
              (λ (s : saw_root (views k).fixed.shape (views k).claims line z ≡ true). (f k ink l keep d).same line z s e)
              (λ (n : IsNew (views k).claims w y line z). new_same keep d line z n e)
              (load_sees o old views g x k ink (h k ink) w y found (views k).log.phase line z q);
          other = λ line z q e. ⊎_elim
              (λ (s : saw_root (views k).fixed.shape (views k).claims line z ≡ true). (f k ink l keep d).other line z s e)
              (λ (n : IsNew (views k).claims w y line z). new_other keep d line z n e)
              (load_sees o old views g x k ink (h k ink) w y found (views k).log.phase line z q);
        })
        (λ j l ne. f j l)

  -- ---- the draw
  module _ (n : ℕ) (law : IsLawful (views k) (Draw n)) (m : Moves k (Draw n) old mem) (t : Turn views new k (after (views k) (Draw n))) where
    abbrev g' : Past
    g' = past_drawn g (views k)

    is_open : (views k).log.phase ≡ Open
    is_open = law.allowed.is_open

    later : World o mem new (past_drawn g (views k))
    later = (every_step (Draw n) o old mem views new g k x ink law m t).0

    undecided : (rs : List Recorded) (es : List Entry) → Rattle.pm_world.specs.Lanes.is_decided (phase_drawn n rs es) ≡ false
    undecided [] [] = refl
    undecided [] (e ∷ es) = refl
    undecided (r ∷ rs) es = refl

    pub draw_holds : (j : ℕ) → j < o.lanes → HoldsItsRoots (new j).fixed.shape (new j).claims (new j).log
    draw_holds = each Holding (after (views k) (Draw n)) t
        (record {
          entered = (h k ink).entered;
          dropped = λ d s line z. absurd (both_ways (Rattle.pm_world.specs.Lanes.is_decided (phase_drawn n (views k).log.records (views k).log.entries)) (undecided (views k).log.records (views k).log.entries) d);
        })
        (λ j l ne. h j l)

    module _ (keep : ℕ → Bool) (d : KeepsDecided (past_drawn g (views k)) keep) where
      before : KeepsDecided g keep
      before i l e = d i (omega arith) (put1_else g.decided g.length _ i (λ q. omega arith) ∙ e)

      abbrev K : State
      K = kept_bits o g keep g.length

      abbrev K' : State
      K' = kept_bits o (past_drawn g (views k)) keep (suc g.length)

      so_far : (b : ℕ) → kept_bits o (past_drawn g (views k)) keep g.length RootWord b ≡ kept_bits o g keep g.length RootWord b
      so_far b = replay_same keep keep (origin o) (ghost_of g).log (ghost_of (past_drawn g (views k))).log RootWord b g.length
          (λ i low. (ap (λ (y : View). diff (call_in y) RootWord b) (put1_else g.drew g.length (views k) i (λ e. omega arith)), inl refl))

      -- a call that does not set the word leaves it
      still : sets_root (redos (views k).log.entries) ≡ false → kept_bits o (past_drawn g (views k)) keep (suc g.length) RootWord ≡ kept_bits o g keep g.length RootWord
      still s = λ i b. at b i
        where
          nothing : (b : ℕ) → diff (call_in ((past_drawn g (views k)).drew g.length)) RootWord b ≡ Rattle.std.proofs.Common.None
          nothing b = ap (λ (y : View). diff (call_in y) RootWord b) (put1_here g.drew g.length (views k))
              ∙ ap (λ q. first_of_two q Rattle.std.proofs.Common.None) (unset (redos (views k).log.entries) s b)

          by : (q : Bool) (r r' : Bool) → r' ≡ r → (c : Rattle.std.proofs.Common.Option Bool) → c ≡ Rattle.std.proofs.Common.None → cond q (over c r') r' ≡ r
          by true r r' e c z = ap (λ u. over u r') z ∙ e
          by false r r' e c z = e

          at : (b : ℕ) → kept_bits o (past_drawn g (views k)) keep (suc g.length) RootWord b ≡ kept_bits o g keep g.length RootWord b
          at b = by (keep g.length) (kept_bits o g keep g.length RootWord b) (kept_bits o (past_drawn g (views k)) keep g.length RootWord b) (so_far b)
              (diff (call_in ((past_drawn g (views k)).drew g.length)) RootWord b) (nothing b)

      -- one that sets it owns it, before and after, so other lanes hold no line of what it names
      others : (j : ℕ) → j < o.lanes → j ≢ k → leaves_root (views j).log ≡ true → RootsAreSeen (views j).fixed.shape (views j).claims (kept_bits o (past_drawn g (views k)) keep (suc g.length))
      others j l ne e = ⊎_elim
          (λ (s : sets_root (redos (views k).log.entries) ≡ true).
          let was : (line z : ℕ) → saw_root (views j).fixed.shape (views j).claims line z ≡ true → is_root_line (number (kept_bits o g keep g.length RootWord)) line ≡ false =
          λ line z q. kept_apart o old views g x keep before j k ne line (saw_held (views j).fixed.shape (views j).claims line z q) (setter_owns o old views g x k ink (h k ink) s) in
          let still_held : (line z : ℕ) → saw_root (views j).fixed.shape (views j).claims line z ≡ true → holds (new j).claims line ≡ true =
          λ line z q. ap (λ (v : View). holds v.claims line) (t.else_ j ne) ∙ saw_held (views j).fixed.shape (views j).claims line z q in
          let sets : sets_root (redos (new k).log.entries) ≡ true = ap (λ (v : View). sets_root (redos v.log.entries)) t.here ∙ s in
          let is : (line z : ℕ) → saw_root (views j).fixed.shape (views j).claims line z ≡ true → is_root_line (number (kept_bits o (past_drawn g (views k)) keep (suc g.length) RootWord)) line ≡ false =
          λ line z q. kept_apart o mem new (past_drawn g (views k)) later keep d j k ne line (still_held line z q) (setter_owns o mem new (past_drawn g (views k)) later k ink (draw_holds k ink) sets) in
          record {
            same = λ line z q c. absurd (both_ways (is_root_line z line) (ap (λ i. is_root_line i line) (sym ((f j l e keep before).same line z q c)) ∙ was line z q) c);
            other = λ line z q c. is line z q;
          })
          (λ (s : sets_root (redos (views k).log.entries) ≡ false).
          seen_alike (views j).fixed.shape (views j).claims (kept_bits o g keep g.length) (kept_bits o (past_drawn g (views k)) keep (suc g.length)) (still s) (f j l e keep before))
          (cases_Bool (sets_root (redos (views k).log.entries)))

      own : leaves_root (after (views k) (Draw n)).log ≡ true → RootsAreSeen (views k).fixed.shape (views k).claims (kept_bits o (past_drawn g (views k)) keep (suc g.length))
      own e = let s = drawn_unset n (views k).log.records (views k).log.entries e in
          seen_alike (views k).fixed.shape (views k).claims (kept_bits o g keep g.length) (kept_bits o (past_drawn g (views k)) keep (suc g.length)) (still s)
          (f k ink (ap (λ ph. is_early ph || not (sets_root (redos (views k).log.entries))) is_open) keep before)

    pub draw_sees : (j : ℕ) → j < o.lanes → leaves_root (new j).log ≡ true → SeenKept o (past_drawn g (views k)) (new j).fixed.shape (new j).claims
    draw_sees = each (Seeing (past_drawn g (views k))) (after (views k) (Draw n)) t (λ e keep d. own keep d e) (λ j l ne e keep d. others keep d j l ne e)
