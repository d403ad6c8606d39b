-- A new form: what opening leaves in a buffer is the frame of a blank message, in front of the bytes that stand behind it.
use Rattle.std.proofs.Common.{◌≡◌, ℕ, ◌+◌, ◌*◌, ◌≤◌, min, ◌&&◌, leb, List, [], ◌∷◌, ◌++◌, map, length, take, drop, Some, None, Ok, Err, Option, Result, sym, refl, ap, ◌∙◌, ⊎_elim, append_assoc, arith, length-append}
use Rattle.std.proofs.lemmas.List.{length-take-le}
use Rattle.std.proofs.lemmas.Bool.{cases_Bool}
use Rattle.std.proofs.lemmas.Bool.Decides.{leb_tells}
use Rattle.wire.specs.declared.refusal.Reason.TheVariants as reason
use Rattle.wire.specs.declared.refusal.Refusal.{Refusal}
use Rattle.wire.specs.Refusals.{bind}
use Rattle.moves.specs.Moves.{patched}
use Rattle.moves.proofs.Patches.{patched_front}
use Rattle.types.specs.Kinds.{Known, AllLawful}
use Rattle.schema.specs.Verdicts.{Verdict, fine, rule}
use Rattle.schema.specs.Sections.{Section}
use Rattle.schema.specs.Structure.{Group, Data, Template}
use Rattle.schema.specs.Geometry.{section_geometry}
use Rattle.schema.specs.Reading.{template_of, schema_of, version_of, sections_of, dictionary_of}
use Rattle.schema.specs.Seen.{block_length, seen_parts, seen_group, seen_template, template_at}
use Rattle.schema.specs.Finding.{PlacedSection, section_at}
use Rattle.message.specs.Blocks.{Slot, block_bytes}
use Rattle.message.specs.Frames.{Contents, groups_bytes, part_bytes, parts_bytes, contents_bytes}
use Rattle.message.specs.Messages.{Message, group_view, data_view, view_of, header, frame_by, geometry_of, is_there}
use Rattle.message.proofs.Views.{SoundView}
use Rattle.message.proofs.Found.{seen_in, template_in_section}
use Rattle.calls.specs.Changes.{◌before◌, blank_entry, blank_contents, needed}
use Rattle.calls.specs.Calls.{laid, can_open, opened_by, opening}
use Rattle.calls.proofs.Splits.{LawfulSlots as SplitsLawful, part_bytes_long, blank_long, IfFound, found}
use Rattle.calls.proofs.Sound.{LawfulSlots, LawfulView, geometry_sound, lawful_slots}
use Rattle.places.specs.Places.{prefixes, blank_needed}
use Rattle.steps.specs.Steps.{has_room, blank_frame, open_by, open_step, left_of, after}

-- ---- how long a blank message is

-- lawful fields, in the words of splits
splits_lawful : (fs : List Slot) → LawfulSlots fs → SplitsLawful fs
splits_lawful [] h = tt
splits_lawful (f ∷ fs) h = (record { kind = h.0.kind; is = h.0.is; lawful = h.0.laws }, splits_lawful fs h.1)

-- a group without entries is three bytes long
blank_groups_long : (known : Known) (u : ℕ) (gs : List Group) → length (groups_bytes (map (group_view known) (map (seen_group u) gs)) (map (λ _. []) (map (group_view known) (map (seen_group u) gs)))) ≡ 3 * length gs
blank_groups_long known u [] = refl
blank_groups_long known u (g ∷ gs) = let rest = blank_groups_long known u gs in omega arith

-- empty data are as long as the numbers of their bytes
blank_parts_long : (ds : List Data) → length (parts_bytes (map data_view ds) (map (λ _. []) (map data_view ds))) ≡ prefixes ds
blank_parts_long [] = refl
blank_parts_long (d ∷ ds) =
    let rest = blank_parts_long ds in
    let first : length (part_bytes (data_view d) []) ≡ d.prefix + 0 = part_bytes_long (data_view d) [] in
    length-append (part_bytes (data_view d) []) (parts_bytes (map data_view ds) (map (λ _. []) (map data_view ds))) ∙ omega arith

module _ (known : Known) (u : ℕ) (t : Template) where
  -- a template whose blocks fit and whose types are lawful: the frame of a blank message is as long as its lines say
  pub blank_needs : SoundView (view_of known (seen_template u t)) → LawfulView (view_of known (seen_template u t)) → needed (view_of known (seen_template u t)) (blank_contents (view_of known (seen_template u t))) ≡ blank_needed u t
  blank_needs sound slots =
      let v = view_of known (seen_template u t) in
      let c = blank_contents v in
      let root : length (block_bytes v.root (blank_entry v.root)) ≡ block_length u t.root = blank_long v.root sound.root (splits_lawful v.root.slots slots.root) in
      let groups : length (groups_bytes v.groups c.groups) ≡ 3 * length t.groups = blank_groups_long known u t.groups in
      let parts : length (parts_bytes v.parts c.parts) ≡ prefixes (seen_parts u t.parts) = blank_parts_long (seen_parts u t.parts) in
      let behind = length-append (groups_bytes v.groups c.groups) (parts_bytes v.parts c.parts) in
      let whole = length-append (block_bytes v.root c.root) (groups_bytes v.groups c.groups ++ parts_bytes v.parts c.parts) in
      omega (arith, root, groups, parts, behind, whole)

-- the same of a section whose types and geometry are right
pub geometry_needs : (known : Known) → AllLawful known → (version p u : ℕ) (t : Section) → section_geometry known version p t ≡ fine → needed (view_of known (seen_template u (template_of t))) (blank_contents (view_of known (seen_template u (template_of t)))) ≡ blank_needed u (template_of t)
geometry_needs known lawful version p u t e = blank_needs known u (template_of t) (geometry_sound known lawful version p u t e) (lawful_slots known lawful version p u t e)

-- ---- the bytes

-- a header and what follows it, laid in front of a buffer that has room for them, are two patches
laid_behind_header : (h x buffer : List ℕ) → length h ≡ 12 → 12 + length x ≤ length buffer → laid (h ++ x) buffer ≡ patched 0 h (patched 12 x buffer)
laid_behind_header h x buffer e room =
    let front : length (take 12 buffer) ≡ 12 = length-take-le 12 buffer (omega arith) in
    let long : length (h ++ x) ≡ 12 + length x = length-append h x ∙ ap (λ (n : ℕ). n + length x) e in
    append_assoc h x (drop (length (h ++ x)) buffer)
    ∙ ap (λ (n : ℕ). h ++ (x ++ drop n buffer)) long
    ∙ sym (patched_front h (take 12 buffer) (x ++ drop (12 + length x) buffer) (e ∙ sym front))

module _ (known : Known) (lawful : AllLawful known) (s buffer : List ℕ) (number version : ℕ) where
  -- the message that a call opens
  abbrev new_message : Contents → Message
  new_message c = record { template = number; version = version; contents = c }

  module _ (t : Template) (at : template_at (dictionary_of s) number version ≡ Some (seen_template version t)) (sound : SoundView (view_of known (seen_template version t))) (slots : LawfulView (view_of known (seen_template version t))) where
    abbrev blank : Contents
    blank = blank_contents (view_of known (seen_template version t))

    -- where there is room, the frame of the blank message is left
    blank_left : blank_needed version t ≤ length buffer → left_of known (dictionary_of s) buffer (new_message blank) ≡ record { length = blank_needed version t; bytes = blank_frame known s buffer number version t }
    blank_left room =
        let x : List ℕ = contents_bytes (view_of known (seen_template version t)) blank in
        let n : 12 + length x ≡ blank_needed version t = blank_needs known version t sound slots in
        let h : List ℕ = header (blank_needed version t) (block_length version t.root) number (schema_of s) version in
        let is : frame_by known (schema_of s) (template_at (dictionary_of s) number version) (new_message blank) ≡ h ++ x =
        ap (λ o. frame_by known (schema_of s) o (new_message blank)) at
        ∙ ap (λ (w : ℕ). header w (block_length version t.root) number (schema_of s) version ++ x) n in
        let long : length (h ++ x) ≡ blank_needed version t = length-append h x ∙ n in
        let bytes = ap (λ (f : List ℕ). laid f buffer) is ∙ laid_behind_header h x buffer refl (omega arith) in
        let all = ap length is ∙ long in
        λ i. record { length = all i; bytes = bytes i }

    -- the same room is asked for
    opened_by_template : after known (dictionary_of s) buffer (opened_by known (length buffer) number version (Some (seen_template version t)))
        ≡ (has_room (blank_needed version t) (length buffer) before Ok (record { length = blank_needed version t; bytes = blank_frame known s buffer number version t }))
    opened_by_template =
        let v = view_of known (seen_template version t) in
        let n = blank_needs known version t sound slots in
        ap (λ (w : ℕ). after known (dictionary_of s) buffer (bind (has_room w (length buffer) before Ok blank) (λ c. Ok (new_message c)))) n
        ∙ ⊎_elim
        (λ a. let fits = a.1 in rw a.0 (ap Ok (blank_left (omega arith))))
        (λ a. rw a.0 refl)
        (leb_tells (blank_needed version t) (min (length buffer) 16384))

  -- by the section that was found, whose types and geometry are g
  opened_by_section : (t : PlacedSection) → template_at (dictionary_of s) number version ≡ seen_in version (Some t) → (g : Verdict) → section_geometry known (version_of s) t.place t.section ≡ g →
      after known (dictionary_of s) buffer (g before opened_by known (length buffer) number version (seen_in version (Some t)))
      ≡ (g before has_room (blank_needed version (template_of t.section)) (length buffer) before Ok (record { length = blank_needed version (template_of t.section); bytes = blank_frame known s buffer number version (template_of t.section) }))
  opened_by_section t at (Ok x) e =
      opened_by_template (template_of t.section) at
      (geometry_sound known lawful (version_of s) t.place version t.section e)
      (lawful_slots known lawful (version_of s) t.place version t.section e)
  opened_by_section t at (Err r) e = refl

  -- by what was found
  opened_by_found : (o : Option PlacedSection) → template_at (dictionary_of s) number version ≡ seen_in version o →
      after known (dictionary_of s) buffer (rule (leb version (version_of s) && is_there (seen_in version o)) reason.CannotOpen 0 0 before geometry_of known (version_of s) o before opened_by known (length buffer) number version (seen_in version o))
      ≡ (rule (leb version (version_of s)) reason.CannotOpen 0 0 before open_by known s buffer number version o)
  opened_by_found None at = ⊎_elim (λ a. rw a refl) (λ a. rw a refl) (cases_Bool (leb version (version_of s)))
  opened_by_found (Some t) at =
      let all = opened_by_section t at (section_geometry known (version_of s) t.place t.section) refl in
      ⊎_elim (λ a. rw a all) (λ a. rw a refl) (cases_Bool (leb version (version_of s)))

  -- opening leaves what the calls say
  pub opens : after known (dictionary_of s) buffer (opening known s (length buffer) number version) ≡ open_step known s buffer number version
  opens =
      let o = section_at number version 7 (sections_of s) in
      let at = template_in_section s number version in
      ap (λ (w : Option Template). after known (dictionary_of s) buffer (rule (leb version (version_of s) && is_there w) reason.CannotOpen 0 0 before geometry_of known (version_of s) o before opened_by known (length buffer) number version w)) at
      ∙ opened_by_found o at

-- ---- template and version

module _ (known : Known) (s buffer : List ℕ) (number version : ℕ) where
  abbrev AsAsked : Message → Type 0
  AsAsked m = (m.template ≡ number) × (m.version ≡ version)

  behind_verdict : (v : Verdict) (r : Result Message Refusal) → IfFound AsAsked r → IfFound AsAsked (v before r)
  behind_verdict (Ok x) r h = h
  behind_verdict (Err e) r h = tt

  with_contents : (r : Result Contents Refusal) → IfFound AsAsked (bind r (λ c. Ok (record { template = number; version = version; contents = c })))
  with_contents (Ok c) = (refl, refl)
  with_contents (Err e) = tt

  by_template : (room : ℕ) (o : Option Template) → IfFound AsAsked (opened_by known room number version o)
  by_template room None = tt
  by_template room (Some t) = with_contents (has_room (needed (view_of known t) (blank_contents (view_of known t))) room before Ok (blank_contents (view_of known t)))

  -- a new message has the template and the version that were asked for
  pub opened_same : (m : Message) → opening known s (length buffer) number version ≡ Ok m → (m.template ≡ number) × (m.version ≡ version)
  opened_same m e =
      found AsAsked (opening known s (length buffer) number version) m
      (behind_verdict (rule (can_open (dictionary_of s) number version) reason.CannotOpen 0 0) _
      (behind_verdict (geometry_of known (version_of s) (section_at number version 7 (sections_of s))) _
      (by_template (length buffer) (template_at (dictionary_of s) number version))))
      e
