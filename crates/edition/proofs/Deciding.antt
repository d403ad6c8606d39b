-- The tests decide that two parts are equal, and that one dictionary is an earlier edition of another.
use Rattle.std.proofs.Common.{◌≡◌, ℕ, Bool, ◌&&◌, List, [], ◌∷◌, drop, Decides, sym, refl, ap, ap₂, arith}
use Rattle.std.proofs.lemmas.Slice.Eq.{bytes_eq-Decides}
use Rattle.std.proofs.lemmas.Bool.{false≢true}
use Rattle.std.proofs.lemmas.Bool.Decides.{Decides-and, Decides-eqb, Decides-like}
use Rattle.schema.specs.Structure.{Field, Block, Group, Data, Template}
use Rattle.schema.specs.Reading.{schema_of, version_of, dictionary_of}
use Rattle.schema.specs.Seen.{seen}
use Rattle.schema.specs.Editions.{EarlierEdition}
use Rattle.schema.proofs.Verdicts.{decides_leb}
use Rattle.edition.specs.Same.{same_lists, same_field, same_block, same_group, same_data, same_template}
use Rattle.lines.specs.Held.{templates_in}
use Rattle.edition.specs.Earlier.{is_earlier}

never : {X : Type 0} (x : X) (xs : List X) → ◌≡◌ {A = List X} [] (x ∷ xs) → ⊥
never x xs e = let z : ◌≡◌ {A = ℕ} 0 1 = cc in omega arith

heads : {X : Type 0} (x y : X) (xs ys : List X) → x ∷ xs ≡ y ∷ ys → (x ≡ y) × (xs ≡ ys)
heads x y xs ys e = ((cc), (cc))

pub lists_decide : {X : Type 0} (same : X → X → Bool) → ((x y : X) → Decides (same x y) (x ≡ y)) → (xs ys : List X) → Decides (same_lists same xs ys) (xs ≡ ys)
lists_decide same each [] [] = ((λ _. refl), (λ _. refl))
lists_decide same each [] (y ∷ ys) = ((λ e. absurd (false≢true e)), (λ e. absurd (never y ys e)))
lists_decide same each (x ∷ xs) [] = ((λ e. absurd (false≢true e)), (λ e. absurd (never x xs (sym e))))
lists_decide same each (x ∷ xs) (y ∷ ys) =
    Decides-like (same x y && same_lists same xs ys)
    (λ h. ap₂ (λ a as'. a ∷ as') h.0 h.1)
    (heads x y xs ys)
    (Decides-and (same x y) (same_lists same xs ys) (each x y) (lists_decide same each xs ys))

field_is : (f g : Field) → (f.tag ≡ g.tag) × ((f.offset ≡ g.offset) × ((f.since ≡ g.since) × ((f.type ≡ g.type) × ((f.presence ≡ g.presence) × (f.argument ≡ g.argument))))) → f ≡ g
field_is f g h = let is : ◌≡◌ {A = Field} (record { tag = f.tag; offset = f.offset; since = f.since; type = f.type; presence = f.presence; argument = f.argument }) (record { tag = g.tag; offset = g.offset; since = g.since; type = g.type; presence = g.presence; argument = g.argument }) = cc in is

pub field_decides : (f g : Field) → Decides (same_field f g) (f ≡ g)
field_decides f g =
    Decides-like (same_field f g) (field_is f g)
    (λ e. (ap (λ (x : Field). x.tag) e, (ap (λ (x : Field). x.offset) e, (ap (λ (x : Field). x.since) e, (ap (λ (x : Field). x.type) e, (ap (λ (x : Field). x.presence) e, ap (λ (x : Field). x.argument) e))))))
    (Decides-and _ _ (Decides-eqb f.tag g.tag) (Decides-and _ _ (Decides-eqb f.offset g.offset) (Decides-and _ _ (Decides-eqb f.since g.since) (Decides-and _ _ (Decides-eqb f.type g.type) (Decides-and _ _ (Decides-eqb f.presence g.presence) (bytes_eq-Decides f.argument g.argument))))))

block_is : (b c : Block) → (b.size ≡ c.size) × (b.fields ≡ c.fields) → b ≡ c
block_is b c h = let is : ◌≡◌ {A = Block} (record { size = b.size; fields = b.fields }) (record { size = c.size; fields = c.fields }) = cc in is

pub block_decides : (b c : Block) → Decides (same_block b c) (b ≡ c)
block_decides b c =
    Decides-like (same_block b c) (block_is b c)
    (λ e. (ap (λ (x : Block). x.size) e, ap (λ (x : Block). x.fields) e))
    (Decides-and _ _ (Decides-eqb b.size c.size) (lists_decide same_field field_decides b.fields c.fields))

group_is : (g h : Group) → (g.tag ≡ h.tag) × (g.block ≡ h.block) → g ≡ h
group_is g h k = let is : ◌≡◌ {A = Group} (record { tag = g.tag; block = g.block }) (record { tag = h.tag; block = h.block }) = cc in is

pub group_decides : (g h : Group) → Decides (same_group g h) (g ≡ h)
group_decides g h =
    Decides-like (same_group g h) (group_is g h)
    (λ e. (ap (λ (x : Group). x.tag) e, ap (λ (x : Group). x.block) e))
    (Decides-and _ _ (Decides-eqb g.tag h.tag) (block_decides g.block h.block))

data_is : (d e : Data) → (d.prefix ≡ e.prefix) × ((d.tag ≡ e.tag) × ((d.since ≡ e.since) × (d.longest ≡ e.longest))) → d ≡ e
data_is d e h = let is : ◌≡◌ {A = Data} (record { tag = d.tag; since = d.since; longest = d.longest; prefix = d.prefix }) (record { tag = e.tag; since = e.since; longest = e.longest; prefix = e.prefix }) = cc in is

pub data_decides : (d e : Data) → Decides (same_data d e) (d ≡ e)
data_decides d e =
    Decides-like (same_data d e) (data_is d e)
    (λ q. (ap (λ (x : Data). x.prefix) q, (ap (λ (x : Data). x.tag) q, (ap (λ (x : Data). x.since) q, ap (λ (x : Data). x.longest) q))))
    (Decides-and _ _ (Decides-eqb d.prefix e.prefix) (Decides-and _ _ (Decides-eqb d.tag e.tag) (Decides-and _ _ (Decides-eqb d.since e.since) (Decides-eqb d.longest e.longest))))

template_is : (t u : Template) → (t.number ≡ u.number) × ((t.since ≡ u.since) × ((t.root ≡ u.root) × ((t.groups ≡ u.groups) × (t.parts ≡ u.parts)))) → t ≡ u
template_is t u h = let is : ◌≡◌ {A = Template} (record { number = t.number; since = t.since; root = t.root; groups = t.groups; parts = t.parts }) (record { number = u.number; since = u.since; root = u.root; groups = u.groups; parts = u.parts }) = cc in is

pub template_decides : (t u : Template) → Decides (same_template t u) (t ≡ u)
template_decides t u =
    Decides-like (same_template t u) (template_is t u)
    (λ e. (ap (λ (x : Template). x.number) e, (ap (λ (x : Template). x.since) e, (ap (λ (x : Template). x.root) e, (ap (λ (x : Template). x.groups) e, ap (λ (x : Template). x.parts) e)))))
    (Decides-and _ _ (Decides-eqb t.number u.number) (Decides-and _ _ (Decides-eqb t.since u.since) (Decides-and _ _ (block_decides t.root u.root) (Decides-and _ _ (lists_decide same_group group_decides t.groups u.groups) (lists_decide same_data data_decides t.parts u.parts)))))

pub earlier_decides : (e d : List ℕ) → Decides (is_earlier e d) (EarlierEdition (dictionary_of e) (dictionary_of d))
earlier_decides e d =
    Decides-like (is_earlier e d)
    (λ h. record { schema = h.0; version = h.1.0; templates = h.1.1 })
    (λ p. (p.schema, (p.version, p.templates)))
    (Decides-and _ _ (Decides-eqb (schema_of e) (schema_of d)) (Decides-and _ _ (decides_leb (version_of e) (version_of d)) (lists_decide same_template template_decides (seen (version_of e) (templates_in (drop 7 d))) (templates_in (drop 7 e)))))
