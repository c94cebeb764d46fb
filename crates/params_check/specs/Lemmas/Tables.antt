-- The entries of the program's tables of keys, and its slots, as the specification has them.
use Rattle.std.specs.Prelude.{Option, None, map}
use Rattle.params_syntax.specs.declared.tree.Value.{Value}
use Rattle.params_check.specs.declared.entries.Key.{Key}
use Rattle.params_check.specs.declared.entries.Wanted.{Wanted}
use Rattle.params_check.specs.declared.entries.Wanted.TheVariants as wanted
use Rattle.params_check.specs.declared.entries.Fallback.{Fallback}
use Rattle.params_check.specs.declared.entries.Fallback.TheVariants as fallback
use Rattle.params_check.specs.Keys.{NumberFrom, EvenFrom, TripleFrom, TripleUpTo, OneOf, ThreeOf, NewNames, FieldName, Threshold, number, word, three_zeros, three_words, no_words}
use Rattle.params_check.specs.Keys as keys

abbrev pub wanted_of : Wanted → keys.Wanted
wanted_of (wanted.Number low high) = NumberFrom low high
wanted_of (wanted.Even low high) = EvenFrom low high
wanted_of (wanted.Triple low high) = TripleFrom low high
wanted_of (wanted.TripleUpTo most) = TripleUpTo most
wanted_of (wanted.OneOf words) = OneOf (map (λ w. w.now) words.now)
wanted_of (wanted.ThreeOf words) = ThreeOf (map (λ w. w.now) words.now)
wanted_of wanted.NewNames = NewNames
wanted_of wanted.FieldName = FieldName
wanted_of wanted.Threshold = Threshold

abbrev pub default_of : Fallback → Option Value
default_of fallback.Required = None
default_of (fallback.Number n) = number n
default_of fallback.ThreeZeros = three_zeros
default_of (fallback.Word w) = word w.now
default_of (fallback.ThreeWords w) = three_words w.now
default_of fallback.NoWords = no_words

abbrev pub entry : Key → keys.Key
entry k = record { name = k.name.now; kinds = map (λ w. w.now) k.kinds.now; wanted = wanted_of k.wanted; default = default_of k.fallback }
