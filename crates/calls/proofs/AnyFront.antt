-- What the front of a buffer is where a message is found in it, under any dictionary's bytes.
use Rattle.std.proofs.Common.{◌≡◌, ℕ, ◌+◌, ◌^◌, ◌<◌, ◌≤◌, false, ◌&&◌, eqb, ltb, leb, List, ◌++◌, length, take, drop, Some, None, Option, sym, refl, ap, ◌∙◌, subst, ap₂, arith, length-drop}
use Rattle.std.proofs.lemmas.List.{length-take-le}
use Rattle.std.proofs.ByRecursion.{All-take, All-drop}
use Rattle.std.proofs.lemmas.Bool.{leb-true, eqb-true, le-ltb, and_parts}
use Rattle.wire.specs.Bytes.{Bytes}
use Rattle.wire.specs.Streams.{frame_length}
use Rattle.wire.proofs.Values.{le_value_below}
use Rattle.types.specs.Kinds.{Known, AllLawful}
use Rattle.schema.specs.Verdicts.{fine}
use Rattle.schema.specs.Structure.{Template}
use Rattle.schema.specs.Geometry.{section_geometry}
use Rattle.schema.specs.Reading.{template_of, version_of, sections_of, dictionary_of}
use Rattle.schema.specs.Seen.{seen_template, template_at}
use Rattle.schema.specs.Finding.{PlacedSection, section_at}
use Rattle.message.specs.Frames.{contents_bytes, stated, contents_verdict, contents_read, Holds}
use Rattle.message.specs.Messages.{Message, view_of, header, frame_by, frame, geometry_of, template_geometry, is_there, contents_by, stated_root, stated_template, stated_schema, stated_version, verdict_when, contents_read_by, message_of, Stands}
use Rattle.message.specs.Fronts.{is_fine, is_frame_of, front_message}
use Rattle.message.proofs.Verdicts.{both, told}
use Rattle.message.proofs.Making.{contents_made}
use Rattle.message.proofs.Views.{SoundView}
use Rattle.message.proofs.Found.{seen_in, template_in_section}
use Rattle.message.proofs.Exact.{header_front}
use Rattle.message.proofs.Fronts.{fine_from, taken}
use Rattle.calls.proofs.Sound.{LawfulView, geometry_sound, lawful_slots}

-- a number that two bytes state
pub stated_below : (bs : List ℕ) (p : ℕ) → Bytes bs → p + 2 ≤ length bs → stated bs p < 65536
stated_below bs p y l =
    let long : length (take 2 (drop p bs)) ≡ 2 = length-take-le 2 (drop p bs) (rw length-drop (omega arith)) in
    subst (λ n. stated bs p < 256 ^ n) long (le_value_below (take 2 (drop p bs)) (All-take (λ b. b < 256) 2 (drop p bs) (All-drop (λ b. b < 256) p bs y)))

-- the first n bytes of a buffer are the frame of the message m, of the template of a number at a version
pub record AnyFront (known : Known) (s : List ℕ) (number version n : ℕ) (buffer : List ℕ) (m : Message) : Type 0 where
  -- the template, and where it stands in the dictionary's bytes
  pub section : PlacedSection
  pub section_is : section_at number version 7 (sections_of s) ≡ Some section
  pub geometry : section_geometry known (version_of s) section.place section.section ≡ fine
  pub template : Template
  pub template_is : template ≡ seen_template version (template_of section.section)
  pub found : template_at (dictionary_of s) number version ≡ Some template
  pub sound : SoundView (view_of known template)
  pub slots : LawfulView (view_of known template)
  -- the message
  pub number_is : m.template ≡ number
  pub version_is : m.version ≡ version
  pub below : version ≤ (dictionary_of s).version
  pub right : Holds false (view_of known template) m.contents
  -- its frame
  pub long : n ≤ length buffer
  pub least : 12 ≤ n
  pub most : n ≤ 16384
  pub front : frame known (dictionary_of s) m ≡ take n buffer
  pub frame_long : length (frame known (dictionary_of s) m) ≡ n
  pub body : drop 12 (take n buffer) ≡ contents_bytes (view_of known template) m.contents
  pub accepted : verdict_when false known s (take n buffer) ≡ fine
  -- what its header states
  pub stated_number : stated_template (take n buffer) ≡ number
  pub stated_at : stated_version (take n buffer) ≡ version
  pub stated_size : stated_root (take n buffer) ≡ template.root.size
  pub number_fits : number < 65536
  pub version_fits : version < 65536
  pub schema_fits : (dictionary_of s).schema < 65536

module _ (known : Known) (lawful : AllLawful known) (s : List ℕ) where
  front_by : (number version n : ℕ) (buffer : List ℕ) (o : Option PlacedSection) → section_at number version 7 (sections_of s) ≡ o → Bytes buffer → n ≤ length buffer → stated_template (take n buffer) ≡ number → stated_version (take n buffer) ≡ version → version ≤ (dictionary_of s).version → verdict_when false known s (take n buffer) ≡ fine →
      AnyFront known s number version n buffer (message_of known (dictionary_of s) (take n buffer))
  front_by number version n buffer None is y l number_is version_is below e =
      let bs = take n buffer in
      let d = dictionary_of s in
      let at : template_at d (stated_template bs) (stated_version bs) ≡ None = ap₂ (template_at d) number_is version_is ∙ template_in_section s number version ∙ ap (seen_in version) is in
      let a = told (frame_length (length bs) && eqb (stated bs 0) (length bs)) _ _ e in
      let b = told (eqb (stated bs 2) 0xEB50) _ _ a.1 in
      let i = told (eqb (stated_schema bs) d.schema) _ _ b.1 in
      let f = told (is_there (template_at d (stated_template bs) (stated_version bs))) _ _ i.1 in
      let not_there : is_there (template_at d (stated_template bs) (stated_version bs)) ≡ false = ap is_there at in
      let z : ◌≡◌ {A = ℕ} 0 1 = cc in absurd (omega arith)
  front_by number version n buffer (Some x) is y l number_is version_is below e =
      let bs = take n buffer in
      let d = dictionary_of s in
      let t = seen_template version (template_of x.section) in
      let v = view_of known t in
      let bytes : Bytes bs = All-take (λ b. b < 256) n buffer y in
      let long : length bs ≡ n = length-take-le n buffer l in
      let there : template_at d number version ≡ Some t = template_in_section s number version ∙ ap (seen_in version) is in
      let at : template_at d (stated_template bs) (stated_version bs) ≡ Some t = ap₂ (template_at d) number_is version_is ∙ there in
      let a = told (frame_length (length bs) && eqb (stated bs 0) (length bs)) _ _ e in
      let a1 = and_parts (frame_length (length bs)) (eqb (stated bs 0) (length bs)) a.0 in
      let a2 = and_parts (leb 12 (length bs)) (leb (length bs) 16384) a1.0 in
      let low = leb-true 12 (length bs) a2.0 in
      let high = leb-true (length bs) 16384 a2.1 in
      let whole : stated bs 0 ≡ length bs = eqb-true _ _ a1.1 in
      let b = told (eqb (stated bs 2) 0xEB50) _ _ a.1 in
      let encoding : stated bs 2 ≡ 0xEB50 = eqb-true _ _ b.0 in
      let i = told (eqb (stated_schema bs) d.schema) _ _ b.1 in
      let id : stated_schema bs ≡ d.schema = eqb-true _ _ i.0 in
      let f = told (is_there (template_at d (stated_template bs) (stated_version bs))) _ _ i.1 in
      let g = both (template_geometry known s (stated_template bs) (stated_version bs)) _ f.1 in
      let geometry : section_geometry known (version_of s) x.place x.section ≡ fine = sym (ap₂ (template_geometry known s) number_is version_is ∙ ap (geometry_of known (version_of s)) is) ∙ g.0 in
      let sound = geometry_sound known lawful (version_of s) x.place version x.section geometry in
      let b12 = drop 12 bs in
      let same_age : ltb d.version (stated_version bs) ≡ false = ap (ltb d.version) version_is ∙ le-ltb _ _ below in
      let k0 : contents_verdict false false v (stated_root bs) 12 b12 ≡ fine = sym (λ j. contents_by known false (same_age j) (at j) (stated_root bs) b12) ∙ g.1 in
      let z : stated_root bs ≡ t.root.size = eqb-true _ _ (told (eqb (stated_root bs) t.root.size) _ _ k0).0 in
      let k1 : contents_verdict false false v t.root.size 12 b12 ≡ fine = subst (λ w. contents_verdict false false v w 12 b12 ≡ fine) z k0 in
      let made = contents_made false v 12 b12 (All-drop (λ w. w < 256) 12 bs bytes) sound.root sound.groups k1 in
      let m = message_of known d bs in
      let read : m.contents ≡ contents_read v t.root.size b12 = λ j. contents_read_by known (at j) (z j) b12 in
      let body : contents_bytes v m.contents ≡ b12 = ap (contents_bytes v) read ∙ sym made.same in
      let all : 12 + length (contents_bytes v m.contents) ≡ stated bs 0 = ap (λ w. 12 + length w) body ∙ rw length-drop (omega arith) in
      let again : frame known d m ≡ bs =
      ap (λ w. frame_by known d.schema w m) at
      ∙ (λ j. header (all j) (sym z j) (stated_template bs) (sym id j) (stated_version bs) ++ body j)
      ∙ sym (header_front bs bytes low encoding) in
      record {
        section = x;
        section_is = is;
        geometry = geometry;
        template = t;
        template_is = refl;
        found = there;
        sound = sound;
        slots = lawful_slots known lawful (version_of s) x.place version x.section geometry;
        number_is = number_is;
        version_is = version_is;
        below = below;
        right = subst (Holds false v) (sym read) made.right;
        long = l;
        least = subst (λ w. 12 ≤ w) long low;
        most = subst (λ w. w ≤ 16384) long high;
        front = again;
        frame_long = ap length again ∙ long;
        body = sym body;
        accepted = e;
        stated_number = number_is;
        stated_at = version_is;
        stated_size = z;
        number_fits = subst (λ w. w < 65536) number_is (stated_below bs 6 bytes (omega arith));
        version_fits = subst (λ w. w < 65536) version_is (stated_below bs 10 bytes (omega arith));
        schema_fits = subst (λ w. w < 65536) id (stated_below bs 8 bytes (omega arith));
      }

  -- a message that is found in the front of a buffer has that front as its frame
  pub any_front : (number version n : ℕ) (buffer : List ℕ) → Bytes buffer → (m : Message) → front_message known s number version n buffer ≡ Some m → AnyFront known s number version n buffer m
  any_front number version n buffer y m e =
      let bs = take n buffer in
      let t = taken (leb n (length buffer) && is_frame_of known s number version bs) (message_of known (dictionary_of s) bs) m e in
      let a = and_parts (leb n (length buffer)) (is_frame_of known s number version bs) t.0 in
      let b = and_parts (eqb (stated_template bs) number && eqb (stated_version bs) version) (leb version (dictionary_of s).version && is_fine (verdict_when false known s bs)) a.1 in
      let b1 = and_parts (eqb (stated_template bs) number) (eqb (stated_version bs) version) b.0 in
      let b2 = and_parts (leb version (dictionary_of s).version) (is_fine (verdict_when false known s bs)) b.1 in
      subst (AnyFront known s number version n buffer) t.1
      (front_by number version n buffer (section_at number version 7 (sections_of s)) refl y (leb-true _ _ a.0) (eqb-true _ _ b1.0) (eqb-true _ _ b1.1) (leb-true _ _ b2.0) (fine_from _ b2.1))

-- such a message stands
pub front_stands : (known : Known) (s : List ℕ) (number version n : ℕ) (buffer : List ℕ) (m : Message) → AnyFront known s number version n buffer m → Stands false known (dictionary_of s) m
front_stands known s number version n buffer m f = record {
  template = f.template;
  found = ap₂ (template_at (dictionary_of s)) f.number_is f.version_is ∙ f.found;
  version = subst (λ w. w ≤ (dictionary_of s).version) (sym f.version_is) f.below;
  right = f.right;
  short = subst (λ w. w ≤ 16384) (sym f.frame_long) f.most;
}
