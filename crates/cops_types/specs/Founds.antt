-- What a reader finds in an entry, and the equality of two of these.
use Rattle.std.specs.Prelude.{Bool, ◌&&◌, nat_eq}
use Rattle.std.specs.Cmp.{first_so, second_so}
use Rattle.std.specs.Cmp.Lexicographic.{pointwise}
use Rattle.cops_types.specs.declared.founds.FoundParts.{FoundParts}
use Rattle.cops_types.specs.declared.records.EntryParts.{EntryParts as Entry}
use Rattle.cops_types.specs.Pairs.{pairs_eq}
use Rattle.cops_types.specs.Same.{TellsSame, both, same_bytes, same_pairs, same_versions}
use Rattle.cops_types.specs.Version.{version_eq}

abbrev pub found_in : Entry → FoundParts
found_in entry = record { version = entry.version; value = entry.value; deps = entry.deps }

abbrev pub found_eq : FoundParts → FoundParts → Bool
found_eq f g = version_eq f.version g.version && (pointwise nat_eq f.value g.value && pairs_eq f.deps g.deps)

pub same_founds : TellsSame found_eq
same_founds = record {
  same = λ f g h.
      let version = same_versions.same f.version g.version (first_so (version_eq f.version g.version) (pointwise nat_eq f.value g.value && pairs_eq f.deps g.deps) h) in
      let h1 = second_so (version_eq f.version g.version) (pointwise nat_eq f.value g.value && pairs_eq f.deps g.deps) h in
      let value = same_bytes.same f.value g.value (first_so (pointwise nat_eq f.value g.value) (pairs_eq f.deps g.deps) h1) in
      let deps = same_pairs.same f.deps g.deps (second_so (pointwise nat_eq f.value g.value) (pairs_eq f.deps g.deps) h1) in
      (λ i. record { version = version i; value = value i; deps = deps i });
  itself = λ f. both (same_versions.itself f.version) (both (same_bytes.itself f.value) (same_pairs.itself f.deps));
}
