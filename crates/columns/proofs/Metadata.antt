-- What is written of columns: where nothing is wrong with them their names stand in their buffer, and their bytes are the metadata's.
use Prim.Native.Nat.{ℕ, ◌+◌, ◌-◌, ◌≤◌}
use native.Mathlib.Omega.{arith}
use mathlib.Core.Path.{◌≡◌, refl, sym, ap, ap₂, ◌∙◌}
use mathlib.Core.Bool.{false}
use mathlib.Core.List.{List, [], ◌∷◌, ◌++◌, map, flat_map}
use mathlib.Core.Option.{Option, some, none}
use lib.ListN.{length, take, drop, replicate, length-append, length-drop, length-map}
use lib.Dec.{leb}
use lib.Seq.{length-take-le}
use borrow.Author.Tests.{le-leb}
use Rattle.format.specs.declared.Fault.TheVariants.{Limit}
use Rattle.format.specs.Number.{num_bytes}
use Rattle.format.specs.Format.{Verdict, fine, number, room, ruled, into, both, counted, each, nothing}
use Rattle.format.specs.Value.{string, ascii, most_bytes}
use Rattle.format.specs.Message.{metadata, column_type, third}
use Rattle.format.proofs.Numbers.{length-num_bytes}
use Rattle.put.specs.Put.{sized}
use Rattle.put.proofs.Laws.{sized_some}
use Rattle.steps.specs.Plans.{also, test, placed}
use Rattle.steps.specs.Arguments.{name_fault, name_faults, types_of, metadata_of}
use Rattle.steps.proofs.Back.{also_fine}
use Rattle.columns.specs.declared.Column.{Column as Entry}
use Rattle.columns.specs.Short.{name_fine}
use Rattle.columns.specs.Entries.{name_of, columns_of, types_in, type_bytes, name_bytes, names_size}

-- columns are as many as their entries, and have their types
pub columns_length : (es : List Entry) (names : List ℕ) → length (columns_of es names) ≡ length es
columns_length es names = length-map es _

pub types_same : (es : List Entry) (names : List ℕ) → types_of (columns_of es names) ≡ types_in es
types_same [] names = refl
types_same (e ∷ es) names = ap (λ (ts : List ℕ). e.wire_type ∷ ts) (types_same es names)

-- names that stand in their buffer
unfoldable pub Standing : List ℕ → List Entry → Type 0
Standing names [] = Unit
Standing names (e ∷ es) = (e.start + e.size ≤ length names) × Standing names es

pub all_standing : (p : ℕ) (names : List ℕ) (es : List Entry) → name_faults p (columns_of es names) ≡ fine → Standing names es
unfolding name_faults Standing
all_standing p names [] f = tt
all_standing p names (e ∷ es) f =
    let a = also_fine (name_fault p (name_of names e)) (name_faults p (columns_of es names)) f in
    ((name_fine p names e a.0).0, all_standing p names es a.1)

-- a name in its buffer
pub name_there : (names : List ℕ) (e : Entry) → e.start + e.size ≤ length names → name_of names e ≡ some (take e.size (drop e.start names))
unfolding name_of
name_there names e h = rw (le-leb (e.start + e.size) (length names) h)

pub name_size : (names : List ℕ) (e : Entry) → e.start + e.size ≤ length names → length (name_bytes names e) ≡ 4 + e.size
name_size names e h =
    let bs = take e.size (drop e.start names) in
    let d = length-drop e.start names in
    let l : length bs ≡ e.size = length-take-le e.size (drop e.start names) (omega arith) in
    ap (λ (o : Option (List ℕ)). length (sized o)) (name_there names e h) ∙ sized_some bs ∙ ap (λ (m : ℕ). 4 + m) l

-- the part of the buffer that the code lends for it
pub part_is : (names : List ℕ) (e : Entry) → e.start + e.size ≤ length names → some (take (e.start + e.size - e.start) (drop e.start names)) ≡ name_of names e
part_is names e h =
    let same : e.start + e.size - e.start ≡ e.size = omega arith in
    ap (λ (m : ℕ). some (take m (drop e.start names))) same ∙ sym (name_there names e h)

pub name_past : (names : List ℕ) (e : Entry) → leb (e.start + e.size) (length names) ≡ false → name_of names e ≡ none
unfolding name_of
name_past names e h = rw h

-- its faults, as the code finds them
pub name_judged : (p : ℕ) (names : List ℕ) (e : Entry) {u v w : Verdict} → e.start + e.size ≤ length names → w ≡ also u v → u ≡ test (leb e.size most_bytes) Limit p
    → v ≡ placed p (ascii (take (e.start + e.size - e.start) (drop e.start names))) → w ≡ name_fault p (name_of names e)
name_judged p names e {u} {v} {w} h i j k =
    let same : e.start + e.size - e.start ≡ e.size = omega arith in
    let bs = take e.size (drop e.start names) in
    let d = length-drop e.start names in
    let l : length bs ≡ e.size = length-take-le e.size (drop e.start names) (omega arith) in
    i ∙ ap₂ also (j ∙ ap (λ (m : ℕ). test (leb m most_bytes) Limit p) (sym l)) (k ∙ ap (λ (m : ℕ). placed p (ascii (take m (drop e.start names)))) same) ∙ ap (name_fault p) (sym (name_there names e h))

pub names_length : (names : List ℕ) (es : List Entry) → Standing names es → length (flat_map (name_bytes names) es) ≡ names_size es
unfolding flat_map names_size Standing
names_length names [] h = refl
names_length names (e ∷ es) h =
    let sum = length-append (name_bytes names e) (flat_map (name_bytes names) es) in
    let one = name_size names e h.0 in
    let rest = names_length names es h.1 in
    omega arith

-- the metadata, part by part
text_bytes : (o : Option (List ℕ)) → (string false ascii 46 47).bytes o ≡ sized o
unfolding counted
text_bytes none = refl
text_bytes (some bs) = refl

types_part : (names : List ℕ) (k : ℕ) (es : List Entry) → (each third k (replicate (length (types_of (columns_of es names))) (column_type 45))).bytes (types_of (columns_of es names)) ≡ flat_map type_bytes es
unfolding each nothing ruled number flat_map
types_part names k [] = refl
types_part names k (e ∷ es) = ap (λ (z : List ℕ). type_bytes e ++ z) (types_part names (k + 1) es)

names_part : (names : List ℕ) (k : ℕ) (es : List Entry)
    → (each third k (replicate (length (types_of (columns_of es names))) (string false ascii 46 47))).bytes (map (λ c. c.name) (columns_of es names)) ≡ flat_map (name_bytes names) es
unfolding each nothing flat_map
names_part names k [] = refl
names_part names k (e ∷ es) = ap₂ ◌++◌ (text_bytes (name_of names e)) (names_part names (k + 1) es)

abbrev inside : ℕ → List Entry → List ℕ → List ℕ
inside status es names = num_bytes 1 status ++ (num_bytes 2 (length es) ++ (flat_map type_bytes es ++ flat_map (name_bytes names) es))

metadata_parts : (status : ℕ) (es : List Entry) (names : List ℕ) → metadata.bytes (metadata_of status (columns_of es names)) ≡ num_bytes 4 (length (inside status es names)) ++ inside status es names
unfolding metadata room into both ruled number
metadata_parts status es names =
    let cs = columns_of es names in
    let n : length (types_of cs) ≡ length es = ap length (types_same es names) ∙ length-map es _ in
    ap (λ (x : List ℕ). num_bytes 4 (length x) ++ x)
    (ap₂ (λ (m : ℕ) (x : List ℕ). num_bytes 1 status ++ (num_bytes 2 m ++ x)) n (ap₂ ◌++◌ (types_part names 0 es) (names_part names 0 es)))

pub types_size : (es : List Entry) → length (flat_map type_bytes es) ≡ length es
unfolding flat_map
types_size [] = refl
types_size (e ∷ es) = let a = length-append (type_bytes e) (flat_map type_bytes es) in let b = length-num_bytes 1 e.wire_type in let r = types_size es in omega arith

inside_length : (status : ℕ) (es : List Entry) (names : List ℕ) → length (inside status es names) ≡ 3 + (length es + length (flat_map (name_bytes names) es))
inside_length status es names =
    let a = length-append (num_bytes 1 status) (num_bytes 2 (length es) ++ (flat_map type_bytes es ++ flat_map (name_bytes names) es)) in
    let b = length-append (num_bytes 2 (length es)) (flat_map type_bytes es ++ flat_map (name_bytes names) es) in
    let c = length-append (flat_map type_bytes es) (flat_map (name_bytes names) es) in
    let d = length-num_bytes 1 status in
    let e = length-num_bytes 2 (length es) in
    let f = types_size es in
    omega arith

pub metadata_length : (status : ℕ) (es : List Entry) (names : List ℕ) → length (metadata.bytes (metadata_of status (columns_of es names))) ≡ 7 + (length es + length (flat_map (name_bytes names) es))
metadata_length status es names =
    let a = ap length (metadata_parts status es names) in
    let b = length-append (num_bytes 4 (length (inside status es names))) (inside status es names) in
    let c = length-num_bytes 4 (length (inside status es names)) in
    let d = inside_length status es names in
    omega arith

-- what is written of the metadata: their length is that of what follows it
pub metadata_is : (status : ℕ) (names : List ℕ) (es : List Entry) {n size : ℕ} → n ≡ length es → size ≡ 3 + (length es + length (flat_map (name_bytes names) es))
    → num_bytes 4 size ++ (num_bytes 1 status ++ (num_bytes 2 n ++ (flat_map type_bytes es ++ flat_map (name_bytes names) es))) ≡ metadata.bytes (metadata_of status (columns_of es names))
metadata_is status names es {n} {size} e f =
    let same : size ≡ length (inside status es names) = f ∙ sym (inside_length status es names) in
    sym (metadata_parts status es names ∙ ap₂ (λ (m x : ℕ). num_bytes 4 m ++ (num_bytes 1 status ++ (num_bytes 2 x ++ (flat_map type_bytes es ++ flat_map (name_bytes names) es)))) (sym same) (sym e))

-- what the step writes
pub around : (m : List ℕ) → length (num_bytes 4 0 ++ (m ++ num_bytes 4 0)) ≡ 8 + length m
around m =
    let a = length-append (num_bytes 4 0) (m ++ num_bytes 4 0) in
    let b = length-append m (num_bytes 4 0) in
    let c = length-num_bytes 4 0 in
    omega arith

pub table_length : (status : ℕ) (es : List Entry) (names : List ℕ)
    → length (num_bytes 4 0 ++ (metadata.bytes (metadata_of status (columns_of es names)) ++ num_bytes 4 0)) ≡ 15 + (length es + length (flat_map (name_bytes names) es))
table_length status es names =
    let a = around (metadata.bytes (metadata_of status (columns_of es names))) in
    let b = metadata_length status es names in
    omega arith
