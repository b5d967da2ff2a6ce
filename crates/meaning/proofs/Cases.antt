-- A law of every kind, from one case for each: of the kinds, in their order, and of the shorthands.
use mathlib.Core.Bool.{Bool}
use Rattle.meaning.specs.Record.{Mode, Way, Kind, constant, atom, modal, move, test, choice, sequence, star, shorthand, unknown}
use Rattle.meaning.specs.Record.{Shorthand, denied, both, either, implies, end, beside, along, until, since}

pub by_kind : (P : Kind → Type 0) → ((v : Bool) → P (constant v)) → P atom → ((m : Mode) → P (modal m)) → ((w : Way) → P (move w))
    → P test → P choice → P sequence → P star → ((σ : Shorthand) → P (shorthand σ)) → P unknown → (K : Kind) → P K
by_kind P a b c d e f g h i j =
    elim [ constant v ↦ a v | atom ↦ b | modal m ↦ c m | move w ↦ d w | test ↦ e | choice ↦ f | sequence ↦ g | star ↦ h | shorthand σ ↦ i σ | unknown ↦ j ]

pub by_shorthand : (P : Shorthand → Type 0) → P denied → P both → P either → P implies → ((w : Way) → P (end w))
    → ((w : Way) (m : Mode) → P (beside w m)) → ((w : Way) (m : Mode) → P (along w m)) → P until → P since → (σ : Shorthand) → P σ
by_shorthand P a b c d e f g h i =
    elim [ denied ↦ a | both ↦ b | either ↦ c | implies ↦ d | end w ↦ e w | beside w m ↦ f w m | along w m ↦ g w m | until ↦ h | since ↦ i ]
