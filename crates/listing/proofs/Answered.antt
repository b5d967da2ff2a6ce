-- What the translator's answer means for the text. A refusal other than 0 is the number that is printed. At 0 there was
-- room for all rules; their words stand in front of zeros, and a place after a list counts as 0 too, so the lines of
-- the words with the zeros are those of the words alone. Words cut into rules have the same lines.
use Prim.Native.Nat.{ℕ, zero, suc, ◌+◌, ◌*◌, ◌<◌, ◌≤◌}
use mathlib.Core.Path.{◌≡◌, refl, sym, ap, ◌∙◌}
use mathlib.Core.List.{List, [], ◌∷◌, ◌++◌}
use native.Mathlib.Omega.{arith}
use native.Mathlib.Nat.{le_refl, zero-add}
use lib.Seq.{get_or-take, get_or-drop, length-take-le}
use borrow.Author.Tests.{eq-eqb, ne_eqb}
use lib.ListN.{length-replicate, length, get_or, take, drop, replicate}
use Rattle.meaning.specs.{Run.each, Run.written, Rule.rule_size, Rule.words, Translation.translation}
use Rattle.meaning.specs.Refusal.{first_of, most_atoms, most_rules, translate_grounds}
use Rattle.meaning.specs.Service.{translate_answer, translate_after}
use Rattle.records.proofs.Ranges.{again}
use Rattle.translate.proofs.RoomGrounds.{accepted}
use Rattle.meaning.specs.Text.{ascii}
use Rattle.copying.specs.Appended.{Appended}
use Rattle.copying.proofs.Appending.{append_written}
use Rattle.std.specs.Simd.{first_chunks}
use Rattle.listing.specs.Page.{line_of, lines_of}
use Rattle.listing.specs.Printed.{spelled, gap, word, line, line_end, printed}

-- ---- zeros
abbrev zeros : ℕ → List ℕ
zeros n = replicate n 0

same_each : {T : Type 0} (n : ℕ) (f g : ℕ → List T) → ((i : ℕ) → i < n → f i ≡ g i) → each n f ≡ each n g
unfolding each
same_each zero f g h = refl
same_each (suc n) f g h = rw (same_each n f g (λ i l. h i (omega arith)), h n (le_refl _))

module _ (z : List ℕ) (only-zeros : (i : ℕ) → get_or z i 0 ≡ 0) where
  before_zeros : (ws : List ℕ) (i : ℕ) → get_or (ws ++ z) i 0 ≡ get_or ws i 0
  before_zeros [] i = only-zeros i
  before_zeros (w ∷ ws) zero = refl
  before_zeros (w ∷ ws) (suc i) = before_zeros ws i

  same_line : (ws : List ℕ) (i : ℕ) → line (ws ++ z) i ≡ line ws i
  unfolding line word
  same_line ws i =
      same_each rule_size (word (ws ++ z) i) (word ws i) (λ j l. rw (before_zeros ws (rule_size * i + j)))

same_lines : (ws : List ℕ) (m n : ℕ) → each n (line (written ws (zeros m))) ≡ each n (line ws)
unfolding written
same_lines ws m n =
    same_each n (line (ws ++ drop (length ws) (zeros m))) (line ws)
    (λ i l. same_line _ (λ k. get_or-drop (length ws) (zeros m) k 0 ∙ again m (length ws + k) 0) ws i)

-- ---- words as rules
length_chunks : (k : ℕ) (ws : List ℕ) → length (first_chunks rule_size k ws) ≡ k
length_chunks zero ws = refl
length_chunks (suc k) ws = ap suc (length_chunks k (drop rule_size ws))

-- Word j of rule i, and so its line.
word_of : (k : ℕ) (ws : List ℕ) (i j : ℕ) → i < k → j < rule_size
    → get_or (get_or (first_chunks rule_size k ws) i []) j 0 ≡ get_or ws (rule_size * i + j) 0
word_of zero ws i j h l = absurd (omega arith)
word_of (suc k) ws zero j h l = get_or-take rule_size ws j 0 l ∙ rw zero-add
word_of (suc k) ws (suc i) j h l =
    let e : rule_size + (rule_size * i + j) ≡ rule_size * suc i + j = omega arith in
    word_of k (drop rule_size ws) i j (omega arith) l ∙ get_or-drop rule_size ws _ 0 ∙ ap (λ n. get_or ws n 0) e

lines_of_words : (ws : List ℕ) (k n : ℕ) → n ≤ k → lines_of (take n (first_chunks rule_size k ws)) ≡ each n (line ws)
unfolding lines_of line_of line word
lines_of_words ws k n h =
    let rules : List (List ℕ) = take n (first_chunks rule_size k ws) in
    let e : length rules ≡ n = length-take-le n _ (rw length_chunks h) in
    rw e (same_each n (λ i. line_of (get_or rules i [])) (line ws)
    (λ i l. same_each rule_size (λ j. spelled (get_or (get_or rules i []) j 0) (gap j)) (word ws i)
    (λ j m. ap (λ w. spelled w (gap j)) (rw (get_or-take n (first_chunks rule_size k ws) i [] l) (word_of k ws i j (omega arith) m)))))

-- ---- the answer
module _ (s : List ℕ) where
  abbrev refusal : ℕ
  refusal = first_of (translate_grounds s most_atoms (rule_size * most_rules))

  abbrev room : List ℕ
  room = zeros (rule_size * most_rules)

  abbrev rules : ℕ
  rules = length (translation s most_atoms)

  -- A refusal, put at the start, is all that is printed.
  module _ {x : ℕ} (answered : x ≡ (translate_answer s most_atoms (length room)).refusal) where
    is_refusal : x ≡ refusal
    unfolding translate_answer
    is_refusal = answered ∙ rw (length-replicate {A = ℕ} (rule_size * most_rules) 0)

    printed_refused : (x ≡ 0 → ⊥) → printed s ≡ ascii "refused " ++ spelled x line_end
    unfolding printed
    printed_refused n = rw (← is_refusal, ne_eqb x 0 n)

    pub refusal_put : (x ≡ 0 → ⊥) → {old new : List ℕ} {e : ℕ} → Appended old 0 (ascii "refused " ++ spelled x line_end) e new → e ≤ length old
        → (e ≡ length (printed s)) × (new ≡ written (printed s) old)
    refusal_put n p fits = append_written (rw (← printed_refused n) at p) fits

  module _ {n : ℕ} (none : 0 ≡ (translate_answer s most_atoms (length room)).refusal)
      (counted : n ≡ (translate_answer s most_atoms (length room)).count) where
    all_counted : n ≡ rules
    unfolding translate_answer
    all_counted = counted ∙ rw (eq-eqb _ 0 (sym none))

    pub few_rules : n ≤ most_rules
    few_rules = omega (arith, (accepted s most_atoms _ (sym (is_refusal none))).1, all_counted)

    printed_rules : {ws : List ℕ} → ws ≡ translate_after s most_atoms room
        → printed s ≡ each n (line ws) ++ (ascii "rules " ++ spelled n line_end)
    unfolding printed translate_after
    printed_rules e =
        let same = same_lines (words (translation s most_atoms)) (rule_size * most_rules) n in
        rw (← is_refusal none, e, eq-eqb _ 0 (sym none), same, all_counted)

    -- The rules' lines and the last line are all that is printed.
    pub rules_put : {ws : List ℕ} {k : ℕ} {rules : List (List ℕ)} → ws ≡ translate_after s most_atoms room
        → rules ≡ first_chunks rule_size k ws → n ≤ k → {old new : List ℕ} {e : ℕ}
        → Appended old 0 (lines_of (take n rules) ++ (ascii "rules " ++ spelled n line_end)) e new → e ≤ length old
        → (e ≡ length (printed s)) × (new ≡ written (printed s) old)
    rules_put {ws} {k} w r few p fits = append_written (rw (r, lines_of_words ws k n few, ← printed_rules w) at p) fits
