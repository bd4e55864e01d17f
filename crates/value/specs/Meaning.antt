-- What the code's kinds mean: which kind of `Kinds` each names, and its kind word.
use Rattle.std.specs.Prelude.{ℕ, Option, Some, None}
use Rattle.value.specs.declared.Number.{Number}
use Rattle.value.specs.declared.Number.TheVariants.{Uint32, Uint64, Int32, Int64}
use Rattle.value.specs.declared.Elements.{Elements}
use Rattle.value.specs.declared.Elements.TheVariants.{Bytes, Uint32s, Uint64s}
use Rattle.value.specs.declared.Kind.{Kind}
use Rattle.value.specs.declared.Kind.TheVariants as Code
use Rattle.value.specs.Kinds as K

abbrev pub number_named : Number → K.Number
number_named Uint32 = K.uint32
number_named Uint64 = K.uint64
number_named Int32 = K.int32
number_named Int64 = K.int64

abbrev pub elements_named : Elements → K.Elements
elements_named Bytes = K.bytes
elements_named Uint32s = K.uint32s
elements_named Uint64s = K.uint64s

-- a kind word that names no kind stands for `other`
abbrev pub kind_named : Option Kind → K.Kind
kind_named None = K.other
kind_named (Some Code.Constant) = K.constant
kind_named (Some (Code.Number n)) = K.number (number_named n)
kind_named (Some Code.Array) = K.array
kind_named (Some Code.Tuple) = K.tuple
kind_named (Some (Code.Elements e)) = K.elements (elements_named e)
kind_named (Some Code.Union) = K.union

abbrev pub kind_word : Kind → ℕ
kind_word Code.Constant = 0
kind_word (Code.Number n) = K.number_kind (number_named n)
kind_word Code.Array = 3
kind_word Code.Tuple = 4
kind_word (Code.Elements e) = K.elements_kind (elements_named e)
kind_word Code.Union = 8
