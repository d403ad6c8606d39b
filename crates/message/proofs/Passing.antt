-- The bytes of contents pass, and read as these contents: under the template that wrote them, and under an older one that reads a part of them.
use Rattle.std.proofs.Common.{◌≡◌, ℕ, suc, ◌+◌, ◌*◌, ◌^◌, ◌<◌, ◌≤◌, Bool, true, false, ◌||◌, T, leb, List, [], ◌∷◌, ◌++◌, map, length, take, drop, sym, refl, ap, ◌∙◌, ap₂, append_assoc, suc-mul, zero-mul, arith, length-append}
use Rattle.std.proofs.lemmas.List.{take_at, drop_at}
use Rattle.std.proofs.lemmas.Bool.{or_left, or_right, le-leb}
use Rattle.wire.specs.Numbers.{le_value, le_bytes}
use Rattle.wire.proofs.Values.{length_le_bytes, le_value_of_bytes}
use Rattle.types.specs.Meanings.{Meaning}
use Rattle.schema.specs.Verdicts.{fine}
use Rattle.message.specs.Blocks.{BlockView, block_bytes, block_verdict, block_meanings, Filled}
use Rattle.message.specs.Frames.{GroupView, DataView, View, Contents, entries_bytes, group_bytes, groups_bytes, part_bytes, parts_bytes, contents_bytes, entry_length, group_length, groups_length, content_length, part_length, length_fits, entries_verdict, groups_verdict, parts_verdict, contents_verdict, entries_read, groups_read, content_of, parts_read, contents_read, Entry, Entries, Groups, Parts, Holds}
use Rattle.message.proofs.Verdicts.{joins, kept, joins_rule}
use Rattle.message.proofs.Blocks.{Sized, passes, meanings_of_bytes, block_length, cut_drop}

-- a number of two bytes
pub two_bytes : (n : ℕ) → n < 65536 → le_value (le_bytes 2 n) ≡ n
two_bytes n h = omega arith

true_from : (b : Bool) → T b → b ≡ true
true_from true h = refl
true_from false h = absurd h

-- ---- data

module _ (prefix : ℕ) (x rest : List ℕ) (h : length x < 256 ^ prefix) where
  part_is : (le_bytes prefix (length x) ++ x) ++ rest ≡ le_bytes prefix (length x) ++ (x ++ rest)
  part_is = append_assoc (le_bytes prefix (length x)) x rest

  pub part_counted : content_length prefix ((le_bytes prefix (length x) ++ x) ++ rest) ≡ length x
  part_counted = ap (λ y. le_value (take prefix y)) part_is ∙ ap le_value (take_at (le_bytes prefix (length x)) (x ++ rest) prefix (length_le_bytes prefix (length x))) ∙ le_value_of_bytes prefix (length x) h

  pub part_long : length ((le_bytes prefix (length x) ++ x) ++ rest) ≡ prefix + (length x + length rest)
  part_long = ap length part_is ∙ simp (length-append, length_le_bytes)

  pub part_content : content_of prefix ((le_bytes prefix (length x) ++ x) ++ rest) ≡ x
  part_content =
      ap (λ n. take n (drop prefix ((le_bytes prefix (length x) ++ x) ++ rest))) part_counted
      ∙ ap (λ y. take (length x) (drop prefix y)) part_is
      ∙ ap (take (length x)) (drop_at (le_bytes prefix (length x)) (x ++ rest) prefix (length_le_bytes prefix (length x)))
      ∙ take_at x rest (length x) refl

  pub part_rest : drop (part_length prefix ((le_bytes prefix (length x) ++ x) ++ rest)) ((le_bytes prefix (length x) ++ x) ++ rest) ≡ rest
  part_rest =
      let e : length (le_bytes prefix (length x) ++ x) ≡ prefix + length x = simp (length-append, length_le_bytes) in
      ap (λ n. drop (prefix + n) ((le_bytes prefix (length x) ++ x) ++ rest)) part_counted
      ∙ drop_at (le_bytes prefix (length x) ++ x) rest (prefix + length x) e

-- the number of bytes of a data has room in its prefix
abbrev pub RoomFor : DataView → Type 0
RoomFor d = d.longest < 256 ^ d.prefix

module _ (newer : Bool) where
  -- the reader's data are the first of the writer's
  abbrev pub Ahead : List DataView → List DataView → Type 0
  Ahead [] [] = Unit {0}
  Ahead [] (h ∷ hs) = T newer
  Ahead (d ∷ ds) [] = ⊥
  Ahead (d ∷ ds) (h ∷ hs) = ((d.longest ≡ h.longest) × (d.prefix ≡ h.prefix) × RoomFor h) × Ahead ds hs

  pub parts_pass : (ds hs : List DataView) (p : ℕ) (xs : List (List ℕ)) → Ahead ds hs → Parts hs xs → parts_verdict newer ds p (parts_bytes hs xs) ≡ fine
  parts_pass [] [] p xs r e = kept (newer || true) _ (or_right newer true refl)
  parts_pass [] (h ∷ hs) p xs r e = kept _ _ (or_left newer _ (true_from newer r))
  parts_pass (d ∷ ds) [] p xs r e = absurd r
  parts_pass (d ∷ ds) (h ∷ hs) p [] r e = absurd e
  parts_pass (d ∷ ds) (h ∷ hs) p (x ∷ xs) r e =
      let most = r.0.0 in
      let room = r.0.2 in
      let fits = e.0 in
      let rest = parts_bytes hs xs in
      let small : length x < 256 ^ h.prefix = omega arith in
      let n = part_counted h.prefix x rest small in
      let l = part_long h.prefix x rest small in
      let bs = part_bytes h x ++ rest in
      let first : leb h.prefix (length bs) ≡ true = le-leb _ _ (omega arith) in
      let second : leb (content_length h.prefix bs) d.longest ≡ true = le-leb _ _ (omega arith) in
      let third : leb (part_length h.prefix bs) (length bs) ≡ true = le-leb _ _ (omega arith) in
      let next : parts_verdict newer ds (p + part_length h.prefix bs) (drop (part_length h.prefix bs) bs) ≡ fine =
      rw (part_rest h.prefix x rest small) (parts_pass ds hs _ xs r.1 e.2) in
      rw r.0.1 (joins_rule _ _ _ first (joins_rule _ _ _ second (joins_rule _ _ _ third next)))

  parts_back : (ds hs : List DataView) (xs : List (List ℕ)) → Ahead ds hs → Parts hs xs → parts_read ds (parts_bytes hs xs) ≡ take (length ds) xs
  parts_back [] hs xs r e = refl
  parts_back (d ∷ ds) [] xs r e = absurd r
  parts_back (d ∷ ds) (h ∷ hs) [] r e = absurd e
  parts_back (d ∷ ds) (h ∷ hs) (x ∷ xs) r e =
      let most = r.0.0 in
      let room = r.0.2 in
      let fits = e.0 in
      let rest = parts_bytes hs xs in
      let small : length x < 256 ^ h.prefix = omega arith in
      rw r.0.1
      (ap₂ (λ y ys. y ∷ ys) (part_content h.prefix x rest small)
      (rw (part_rest h.prefix x rest small) (parts_back ds hs xs r.1 e.2)))

-- ---- the part of contents that an older template has

abbrev pub cut_block : BlockView → List Meaning → List Meaning
cut_block b ms = take (length b.slots) ms

abbrev pub cut_groups : List GroupView → List (List (List Meaning)) → List (List (List Meaning))
cut_groups [] ess = []
cut_groups (g ∷ gs) [] = []
cut_groups (g ∷ gs) (es ∷ ess) = map (cut_block g.block) es ∷ cut_groups gs ess

abbrev pub cut_to : View → Contents → Contents
cut_to v c = record { root = cut_block v.root c.root; groups = cut_groups v.groups c.groups; parts = take (length v.parts) c.parts }

-- what is written by the block c can be read by the block b
pub record Reads (newer : Bool) (b c : BlockView) : Type 0 where
  pub own : Sized b
  pub wide : Sized c
  pub size : length_fits newer c.size b.size ≡ true
  pub tail : List Meaning → List ℕ
  pub begins : (ms : List Meaning) → Filled c.slots ms → block_bytes c ms ≡ block_bytes b (cut_block b ms) ++ tail ms
  pub entry : (closed : Bool) (ms : List Meaning) → Entry closed c ms → Entry closed b (cut_block b ms)

pub entries_long : (closed : Bool) (b : BlockView) (es : List (List Meaning)) → Sized b → Entries closed b es → length (entries_bytes b es) ≡ length es * b.size
entries_long closed b [] s e = sym (zero-mul b.size)
entries_long closed b (ms ∷ es) s e =
    let l = block_length b ms s e.0.0 in
    let ih = entries_long closed b es s e.1 in
    rw (length-append, suc-mul) (omega arith)

module _ (newer : Bool) where
  abbrev pub AllRead : List GroupView → List GroupView → Type 0
  AllRead [] [] = Unit {0}
  AllRead [] (h ∷ hs) = ⊥
  AllRead (g ∷ gs) [] = ⊥
  AllRead (g ∷ gs) (h ∷ hs) = Reads newer g.block h.block × AllRead gs hs

  -- what is written by the template w can be read by the template v
  pub record ViewReads (v w : View) : Type 0 where
    pub root : Reads newer v.root w.root
    pub groups : AllRead v.groups w.groups
    pub parts : Ahead newer v.parts w.parts

module _ (closed newer : Bool) where
  entry_passes : (b c : BlockView) (p : ℕ) (ms : List Meaning) (more : List ℕ) → Reads newer b c → Entry closed c ms → block_verdict closed p b (block_bytes c ms ++ more) ≡ fine
  entry_passes b c p ms more r e =
      let k = r.entry closed ms e in
      rw (r.begins ms e.0, append_assoc) (passes closed p 0 b.slots b.size (cut_block b ms) (r.tail ms ++ more) r.own.0 k.0 k.1)

  entry_back : (b c : BlockView) (ms : List Meaning) (more : List ℕ) → Reads newer b c → Entry closed c ms → block_meanings b (block_bytes c ms ++ more) ≡ cut_block b ms
  entry_back b c ms more r e =
      let k = r.entry closed ms e in
      rw (r.begins ms e.0, append_assoc) (meanings_of_bytes 0 b.slots b.size (cut_block b ms) (r.tail ms ++ more) r.own.0 k.0)

  entries_pass : (b c : BlockView) (t p : ℕ) (es : List (List Meaning)) (more : List ℕ) → Reads newer b c → Entries closed c es → entries_verdict closed b c.size t (length es) p (entries_bytes c es ++ more) ≡ fine
  entries_pass b c t p [] more r e = refl
  entries_pass b c t p (ms ∷ es) more r e =
      let l = block_length c ms r.wide e.0.0 in
      let d = cut_drop c.size (block_bytes c ms) (entries_bytes c es) more l in
      let a = append_assoc (block_bytes c ms) (entries_bytes c es) more in
      let ih = entries_pass b c t (p + c.size) es more r e.1 in
      let big : c.size ≤ length ((block_bytes c ms ++ entries_bytes c es) ++ more) = simp length-append (omega arith) in
      let here : block_verdict closed p b ((block_bytes c ms ++ entries_bytes c es) ++ more) ≡ fine = rw a (entry_passes b c p ms (entries_bytes c es ++ more) r e.0) in
      let next : entries_verdict closed b c.size t (length es) (p + c.size) (drop c.size ((block_bytes c ms ++ entries_bytes c es) ++ more)) ≡ fine = rw d ih in
      joins_rule _ _ _ (le-leb _ _ big) (joins _ _ here next)

  pub size_small : (b : BlockView) → Sized b → b.size < 65536
  size_small b s = let l = s.1 in omega arith

  pub group_long : (h : GroupView) (es : List (List Meaning)) → Sized h.block → Entries closed h.block es → 3 + length es * le_value (le_bytes 2 h.block.size) ≡ suc (suc (suc (length (entries_bytes h.block es))))
  group_long h es s e = rw (two_bytes h.block.size (size_small h.block s), entries_long closed h.block es s e) (omega arith)

  pub group_rest : (h : GroupView) (es : List (List Meaning)) (xs more : List ℕ) → Sized h.block → Entries closed h.block es →
      drop (group_length ((group_bytes h es ++ xs) ++ more)) ((group_bytes h es ++ xs) ++ more) ≡ xs ++ more
  group_rest h es xs more s e = rw (group_long h es s e) (cut_drop _ (entries_bytes h.block es) xs more refl)

  pub groups_long : (gs hs : List GroupView) (ess : List (List (List Meaning))) (more : List ℕ) → AllRead newer gs hs → Groups closed hs ess → groups_length gs (groups_bytes hs ess ++ more) ≡ length (groups_bytes hs ess)
  groups_long [] [] ess more r e = refl
  groups_long [] (h ∷ hs) ess more r e = absurd r
  groups_long (g ∷ gs) [] ess more r e = absurd r
  groups_long (g ∷ gs) (h ∷ hs) [] more r e = absurd e
  groups_long (g ∷ gs) (h ∷ hs) (es ∷ ess) more r e =
      let w = r.0.wide in
      let q = group_rest h es (groups_bytes hs ess) more w e.1 in
      let s = group_long h es w e.1 in
      let ih = groups_long gs hs ess more r.1 e.2 in
      rw (q, ih, length-append) (omega arith)

  groups_pass : (gs hs : List GroupView) (p : ℕ) (ess : List (List (List Meaning))) (more : List ℕ) → AllRead newer gs hs → Groups closed hs ess → groups_verdict closed newer gs p (groups_bytes hs ess ++ more) ≡ fine
  groups_pass [] [] p ess more r e = refl
  groups_pass [] (h ∷ hs) p ess more r e = absurd r
  groups_pass (g ∷ gs) [] p ess more r e = absurd r
  groups_pass (g ∷ gs) (h ∷ hs) p [] more r e = absurd e
  groups_pass (g ∷ gs) (h ∷ hs) p (es ∷ ess) more r e =
      let w = r.0.wide in
      let s = two_bytes h.block.size (size_small h.block w) in
      let z = r.0.size in
      let bs = (group_bytes h es ++ groups_bytes hs ess) ++ more in
      let first : leb 3 (length bs) ≡ true = le-leb _ _ (omega arith) in
      let second : length_fits newer (entry_length bs) g.block.size ≡ true = rw s z in
      let third : leb (length es) 254 ≡ true = le-leb _ _ e.0 in
      let all : entries_verdict closed g.block (entry_length bs) g.tag (length es) (p + 3) (drop 3 bs) ≡ fine =
      rw (s, append_assoc) (entries_pass g.block h.block g.tag (p + 3) es (groups_bytes hs ess ++ more) r.0 e.1) in
      let next : groups_verdict closed newer gs (p + group_length bs) (drop (group_length bs) bs) ≡ fine =
      rw (group_rest h es (groups_bytes hs ess) more w e.1) (groups_pass gs hs _ ess more r.1 e.2) in
      joins _ _ (joins_rule _ _ _ first (joins_rule _ _ _ second (joins_rule _ _ _ third all))) next

  entries_back : (b c : BlockView) (es : List (List Meaning)) (more : List ℕ) → Reads newer b c → Entries closed c es → entries_read b c.size (length es) (entries_bytes c es ++ more) ≡ map (cut_block b) es
  entries_back b c [] more r e = refl
  entries_back b c (ms ∷ es) more r e =
      let l = block_length c ms r.wide e.0.0 in
      let d = cut_drop c.size (block_bytes c ms) (entries_bytes c es) more l in
      let a = append_assoc (block_bytes c ms) (entries_bytes c es) more in
      ap₂ (λ x xs. x ∷ xs) (rw a (entry_back b c ms (entries_bytes c es ++ more) r e.0)) (rw d (entries_back b c es more r e.1))

  groups_back : (gs hs : List GroupView) (ess : List (List (List Meaning))) (more : List ℕ) → AllRead newer gs hs → Groups closed hs ess → groups_read gs (groups_bytes hs ess ++ more) ≡ cut_groups gs ess
  groups_back [] [] ess more r e = refl
  groups_back [] (h ∷ hs) ess more r e = absurd r
  groups_back (g ∷ gs) [] ess more r e = absurd r
  groups_back (g ∷ gs) (h ∷ hs) [] more r e = absurd e
  groups_back (g ∷ gs) (h ∷ hs) (es ∷ ess) more r e =
      ap₂ (λ x xs. x ∷ xs)
      (rw (two_bytes h.block.size (size_small h.block r.0.wide), append_assoc) (entries_back g.block h.block es (groups_bytes hs ess ++ more) r.0 e.1))
      (rw (group_rest h es (groups_bytes hs ess) more r.0.wide e.1) (groups_back gs hs ess more r.1 e.2))

  module _ (v w : View) (c : Contents) (r : ViewReads newer v w) (e : Holds closed w c) where
    pub root_rest : drop w.root.size (contents_bytes w c) ≡ groups_bytes w.groups c.groups ++ parts_bytes w.parts c.parts
    root_rest = drop_at (block_bytes w.root c.root) _ _ (block_length w.root c.root r.root.wide e.root.0)

    pub groups_rest : drop (groups_length v.groups (groups_bytes w.groups c.groups ++ parts_bytes w.parts c.parts)) (groups_bytes w.groups c.groups ++ parts_bytes w.parts c.parts) ≡ parts_bytes w.parts c.parts
    groups_rest = drop_at (groups_bytes w.groups c.groups) _ _ (sym (groups_long v.groups w.groups c.groups _ r.groups e.groups))

    -- the bytes of contents pass
    pub contents_pass : (p : ℕ) → contents_verdict closed newer v w.root.size p (contents_bytes w c) ≡ fine
    contents_pass p =
        let l = block_length w.root c.root r.root.wide e.root.0 in
        let big : w.root.size ≤ length (contents_bytes w c) = simp length-append (omega arith) in
        let bs = drop w.root.size (contents_bytes w c) in
        let all : groups_verdict closed newer v.groups (p + w.root.size) bs ≡ fine = rw root_rest (groups_pass v.groups w.groups _ c.groups _ r.groups e.groups) in
        let last : parts_verdict newer v.parts (p + w.root.size + groups_length v.groups bs) (drop (groups_length v.groups bs) bs) ≡ fine =
        rw (root_rest, groups_rest) (parts_pass newer v.parts w.parts _ c.parts r.parts e.parts) in
        joins_rule _ _ _ r.root.size
        (joins_rule _ _ _ (le-leb _ _ big)
        (joins _ _ (entry_passes v.root w.root p c.root _ r.root e.root)
        (joins _ _ all last)))

    groups_got : groups_read v.groups (drop w.root.size (contents_bytes w c)) ≡ cut_groups v.groups c.groups
    groups_got = rw root_rest (groups_back v.groups w.groups c.groups _ r.groups e.groups)

    parts_got : parts_read v.parts (drop (groups_length v.groups (drop w.root.size (contents_bytes w c))) (drop w.root.size (contents_bytes w c))) ≡ take (length v.parts) c.parts
    parts_got = rw (root_rest, groups_rest) (parts_back newer v.parts w.parts c.parts r.parts e.parts)

    -- and read as these contents, as far as the reader's template has them
    pub contents_back : contents_read v w.root.size (contents_bytes w c) ≡ cut_to v c
    contents_back = λ i. record {
      root = entry_back v.root w.root c.root (groups_bytes w.groups c.groups ++ parts_bytes w.parts c.parts) r.root e.root i;
      groups = groups_got i;
      parts = parts_got i;
    }
