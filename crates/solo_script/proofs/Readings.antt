-- A text has one script at most, or one first bad line.
use Rattle.std.proofs.Common.{◌≡◌, ◌≤◌, ℕ, inl, inr, List, length, Result, Ok, Err, refl, sym, ap, ◌∙◌, arith}
use Rattle.std.specs.Result.{IfOk, IfErr}
use Rattle.std.proofs.lemmas.List.Elements.{All-contains}
use Rattle.solo_script.specs.Scripts.{IsScript, IsBadLine, IsFirstOpen, IfBad, IsUnlessNoMemory, begin_lines}
use Rattle.solo_script.specs.declared.context.OpenTransaction.{OpenTransaction}
use Rattle.solo_script.specs.declared.fault.BadLine.{BadLine}
use Rattle.solo_script.specs.declared.fault.ScriptFault.{ScriptFault}
use Rattle.solo_script.specs.declared.fault.ScriptFault.TheVariants.{Bad, Memory}
use Rattle.solo_script.specs.declared.script.Script.{Script}

first_open_once : (begun : List OpenTransaction) (one other : ℕ) → IsFirstOpen begun one → IsFirstOpen begun other → one ≡ other
first_open_once begun one other s t =
    let up = All-contains (λ line. one ≤ line) (begin_lines begun) other s.1 t.0 in
    let down = All-contains (λ line. other ≤ line) (begin_lines begun) one t.1 s.0 in
    omega (arith, up, down)

pub bad_line_once : (lines : List (List ℕ)) (one other : BadLine) → IsBadLine lines one → IsBadLine lines other → one ≡ other
bad_line_once lines one other (inl (more, is)) (inl (others, was)) = cc
bad_line_once lines one other (inl (more, is)) (inr (none, why, first)) = cc
bad_line_once lines one other (inr (none, why, first)) (inl (more, is)) = cc
bad_line_once lines one other (inr (none, why, first)) (inr (gone, reason, least)) =
    let line = first_open_once _ one.line other.line first least in
    let same : one.why ≡ other.why = why ∙ sym reason in
    λ i. record { line = line i; why = same i }

pub not_both : (lines : List (List ℕ)) (script : Script) (bad : BadLine) → IsScript lines script → ¬ IsBadLine lines bad
not_both lines script bad is (inl (others, was)) = let good = is.good in cc
not_both lines script bad is (inr (none, why, first)) = let closed = is.closed in let few = ap (λ begun. length (begin_lines begun)) closed in absurd (let low = first.0.1 in omega (arith, low, few))

module _ (lines : List (List ℕ)) where
  pub exact : (result : Result Script ScriptFault) → IfOk result (IsScript lines) → IfErr result (λ e. IfBad e (IsBadLine lines))
      → (bad : BadLine) → IsBadLine lines bad → IsUnlessNoMemory result (Err (Bad bad))
  exact (Ok script) ok err bad is = absurd (not_both lines script bad ok is)
  exact (Err (Bad found)) ok err bad is = inl (ap (λ line. Err (Bad line)) (bad_line_once lines found bad err is))
  exact (Err (Memory error)) ok err bad is = inr refl
