-- What is read from the words of a rule.
--   place_meant place    the word that names a place
--   Names word answer    the place that a word names, or that it names none
--   start_of L place     the first instant of a place
--   end_of L place       the instant after its last
--   word_in literals i   the word of literal i
--   rule_meant rule      the definitions' rule for the code's
use Rattle.std.specs.Prelude.{ℕ, ◌-◌, ◌<◌, ◌≡◌, List, get_or, Result, MatchResult}
use Rattle.meaning.specs.Rule as spec
use Rattle.refusals.specs.declared.Refusal.{Refusal}
use Rattle.refusals.specs.declared.Refusal.TheVariants.{WrongRules}
use Rattle.judge.specs.declared.literal.Literal.{Literal}
use Rattle.judge.specs.declared.place.Place.{Place}
use Rattle.judge.specs.declared.place.Place.TheVariants.{Every, First, Later, Last}
use Rattle.judge.specs.declared.rule.Rule.{Rule}

abbrev pub place_meant : Place → ℕ
place_meant Every = 0
place_meant First = 1
place_meant Later = 2
place_meant Last = 3

abbrev pub Names : ℕ → Result Place Refusal → Type 0
Names word answer = MatchResult answer (λ place. place_meant place ≡ word) (λ refusal. (refusal ≡ WrongRules) × (3 < word))

abbrev pub start_of : ℕ → Place → ℕ
start_of L Every = 0
start_of L First = 0
start_of L Later = 1
start_of L Last = L - 1

abbrev pub end_of : ℕ → Place → ℕ
end_of L Every = L
end_of L First = 1
end_of L Later = L
end_of L Last = L

abbrev pub word_in : List Literal → ℕ → ℕ
word_in literals i = (get_or literals i record { 0 = 0 }).0

abbrev pub rule_meant : Rule → spec.Rule
rule_meant r = record {
  place = place_meant r.place;
  body1 = word_in r.body 0;
  body2 = word_in r.body 1;
  head1 = word_in r.head 0;
  head2 = word_in r.head 1;
  head3 = word_in r.head 2;
}
