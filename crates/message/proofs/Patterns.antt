-- What the laws of a library grant of a type that it knows, in the words in which blocks speak of it.
use Rattle.std.proofs.Common.{◌≡◌, ℕ, List, length, Some, None, Ok, Option, ap, arith}
use Rattle.wire.specs.declared.refusal.Reason.{Reason}
use Rattle.wire.specs.Bytes.{Bytes}
use Rattle.types.specs.Meanings.{Meaning}
use Rattle.types.specs.Kinds.{Kind, Lawful}
use Rattle.types.specs.Answers.{or_refused, read_of, pattern_of}
use Rattle.schema.specs.Geometry.{width_or_0}
use Rattle.message.specs.Blocks.{written, HasPattern}

pub record SoundKind (k : Option Kind) : Type 0 where
  -- patterns are byte strings of the width, and read as what they mean
  pub long : (m : Meaning) → HasPattern k m → length (written k m) ≡ width_or_0 k
  pub in_bytes : (m : Meaning) → HasPattern k m → Bytes (written k m)
  pub read : (m : Meaning) → HasPattern k m → read_of k (written k m) ≡ Ok m
  -- bytes that mean something are its pattern
  pub back : (m : Meaning) (bs : List ℕ) → Bytes bs → read_of k bs ≡ Ok m → pattern_of k m ≡ Ok bs

-- an answer that is not refused is there
pub was_there : {X : Type 0} (why : Reason) (o : Option X) (x : X) → or_refused why o ≡ Ok x → o ≡ Some x
was_there why None x e = let z : ◌≡◌ {A = ℕ} 0 1 = cc in absurd (omega arith)
was_there why (Some y) x e = cc

pub sound_lawful : (k : Kind) → Lawful k → SoundKind (Some k)
sound_lawful k l = record {
  long = λ m h. l.long m (written (Some k) m) (was_there _ (k.pattern m) (written (Some k) m) h);
  in_bytes = λ m h. l.bytes m (written (Some k) m) (was_there _ (k.pattern m) (written (Some k) m) h);
  read = λ m h. ap (or_refused _) (l.read_back m (written (Some k) m) (was_there _ (k.pattern m) (written (Some k) m) h));
  back = λ m bs y e. ap (or_refused _) (l.written_back bs m y (was_there _ (k.means bs) m e));
}
