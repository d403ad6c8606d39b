-- Frames are bytes.
use Rattle.std.proofs.Common.{ℕ, ◌<◌, Bool, List, [], ◌∷◌, ◌++◌, length, arith}
use Rattle.std.proofs.ByRecursion.{All-append}
use Rattle.wire.specs.Bytes.{Bytes}
use Rattle.wire.specs.Numbers.{le_bytes}
use Rattle.wire.proofs.Values.{le_bytes_are_bytes}
use Rattle.types.specs.Meanings.{Meaning}
use Rattle.message.specs.Blocks.{BlockView, block_bytes}
use Rattle.message.specs.Frames.{GroupView, DataView, View, Contents, entries_bytes, group_bytes, groups_bytes, part_bytes, parts_bytes, contents_bytes, Entries, Groups, Parts, Holds}
use Rattle.message.specs.Messages.{header}
use Rattle.message.proofs.Blocks.{Sized, bytes_in_bytes}
use Rattle.message.proofs.Making.{AllSized}
use Rattle.message.proofs.Views.{SoundView}

pub both_bytes : (xs ys : List ℕ) → Bytes xs → Bytes ys → Bytes (xs ++ ys)
both_bytes xs ys h k = All-append (λ b. b < 256) xs ys h k

-- a number in front of bytes
number_bytes : (w n : ℕ) (s : List ℕ) → Bytes s → Bytes (le_bytes w n ++ s)
number_bytes w n s h = both_bytes (le_bytes w n) s (le_bytes_are_bytes w n) h

parts_in_bytes : (ds : List DataView) (xs : List (List ℕ)) → Parts ds xs → Bytes (parts_bytes ds xs)
parts_in_bytes [] xs e = tt
parts_in_bytes (d ∷ ds) [] e = tt
parts_in_bytes (d ∷ ds) (x ∷ xs) e = both_bytes (part_bytes d x) (parts_bytes ds xs) (number_bytes d.prefix (length x) x e.1) (parts_in_bytes ds xs e.2)

module _ (closed : Bool) where
  entries_in_bytes : (b : BlockView) (es : List (List Meaning)) → Sized b → Entries closed b es → Bytes (entries_bytes b es)
  entries_in_bytes b [] s e = tt
  entries_in_bytes b (ms ∷ es) s e = both_bytes (block_bytes b ms) (entries_bytes b es) (bytes_in_bytes 0 b.slots b.size ms s.0 e.0.0) (entries_in_bytes b es s e.1)

  groups_in_bytes : (gs : List GroupView) (ess : List (List (List Meaning))) → AllSized gs → Groups closed gs ess → Bytes (groups_bytes gs ess)
  groups_in_bytes [] ess s e = tt
  groups_in_bytes (g ∷ gs) [] s e = tt
  groups_in_bytes (g ∷ gs) (es ∷ ess) s e =
      let few = e.0 in
      let rest : Bytes (length es ∷ entries_bytes g.block es) = (omega arith, entries_in_bytes g.block es s.0 e.1) in
      both_bytes (group_bytes g es) (groups_bytes gs ess) (number_bytes 2 g.block.size (length es ∷ entries_bytes g.block es) rest) (groups_in_bytes gs ess s.1 e.2)

  pub contents_in_bytes : (v : View) (c : Contents) → SoundView v → Holds closed v c → Bytes (contents_bytes v c)
  contents_in_bytes v c s h =
      both_bytes (block_bytes v.root c.root) (groups_bytes v.groups c.groups ++ parts_bytes v.parts c.parts) (bytes_in_bytes 0 v.root.slots v.root.size c.root s.root.0 h.root.0)
      (both_bytes (groups_bytes v.groups c.groups) (parts_bytes v.parts c.parts) (groups_in_bytes v.groups c.groups s.groups h.groups) (parts_in_bytes v.parts c.parts h.parts))

pub header_in_bytes : (whole size number schema version : ℕ) → Bytes (header whole size number schema version)
header_in_bytes whole size number schema version =
    let last = le_bytes_are_bytes 2 version in
    let fifth = number_bytes 2 schema (le_bytes 2 version) last in
    let fourth = number_bytes 2 number (le_bytes 2 schema ++ le_bytes 2 version) fifth in
    let third = number_bytes 2 size (le_bytes 2 number ++ (le_bytes 2 schema ++ le_bytes 2 version)) fourth in
    let second = number_bytes 2 0xEB50 (le_bytes 2 size ++ (le_bytes 2 number ++ (le_bytes 2 schema ++ le_bytes 2 version))) third in
    number_bytes 2 whole (le_bytes 2 0xEB50 ++ (le_bytes 2 size ++ (le_bytes 2 number ++ (le_bytes 2 schema ++ le_bytes 2 version)))) second
