-- What a look-up in the definition finds is of the key, and has the version.
use Rattle.std.proofs.Common.{◌≡◌, ℕ, List, ap, sym, ◌∙◌}
use Rattle.std.specs.Prelude.{Some}
use Rattle.cops_types.specs.declared.records.EntryParts.{EntryParts as Entry}
use Rattle.cops_types.specs.declared.records.Record.{Record}
use Rattle.cops_types.specs.Founds.{found_in}
use Rattle.cops_types.specs.Key.{key_eq}
use Rattle.cops_types.specs.Records.{Tracked, exact, greatest_of, kept, latest, of_key}
use Rattle.cops_types.specs.Version.{Timestamp, version_eq}
use Rattle.cops_types.proofs.Elements.{Among-find, Among-filter}
use Rattle.cops_types.proofs.GreatestLists.{key_eq-true}
use Rattle.cops_types.proofs.VersionOrder.{version_eq-true}
use Rattle.cops_model.specs.declared.calls.NodeCall.TheVariants.{Get}
use Rattle.cops_model.specs.declared.calls.NodeReply.{NodeReply}
use Rattle.cops_model.specs.declared.calls.NodeReply.TheVariants.{Found}
use Rattle.cops_model.specs.declared.calls.Wanted.{Wanted}
use Rattle.cops_model.specs.declared.calls.Wanted.TheVariants.{Latest, Exactly}
use Rattle.cops_node.specs.declared.rows.Exchange.{Exchange}
use Rattle.cops_model.specs.Step.{found}

exact_is : (key : List ℕ) (version : Timestamp) (tracked : List Tracked) (r : Record) → Some r ≡ exact key version tracked → (r.entry.key ≡ key) × (r.entry.version ≡ version)
exact_is key version tracked r is =
    let here = Among-find (λ (s : Record). version_eq s.entry.version version) r (of_key key (kept tracked)) (sym is) in
    (key_eq-true r.entry.key key (Among-filter (λ (s : Record). key_eq s.entry.key key) r (kept tracked) here.0).1, version_eq-true r.entry.version version here.1)

-- a get that found the entry
abbrev got : Entry → Wanted → Exchange
got entry wanted = record { call = Get entry.key wanted; reply = Found (found_in entry) }

abbrev asked : List ℕ → Wanted → NodeReply → Exchange
asked key wanted reply = record { call = Get key wanted; reply = reply }

-- a found record's entry says all of the get
module _ (key : List ℕ) (tracked : List Tracked) (r : Record) (entry : Entry) (same : entry ≡ r.entry) (told : NodeReply) (told_is : told ≡ found r) where
  got_is : (wanted wanted' : Wanted) → entry.key ≡ key → wanted ≡ wanted' → got entry wanted ≡ asked key wanted' told
  got_is wanted wanted' keys as_wanted =
      let replies : Found (found_in entry) ≡ told = ap (λ (e : Entry). Found (found_in e)) same ∙ sym told_is in
      λ i. asked (keys i) (as_wanted i) (replies i)

  pub latest_asked : (packed : Exchange) → Some r ≡ latest key tracked → packed ≡ got entry Latest → packed ≡ asked key Latest told
  latest_asked packed is packed_is =
      packed_is ∙ got_is Latest Latest (ap (λ (e : Entry). e.key) same ∙ (exact_is key (greatest_of key (kept tracked)) tracked r is).0) (λ _. Latest)

  pub exactly_asked : (packed : Exchange) (version : Timestamp) → Some r ≡ exact key version tracked → packed ≡ got entry (Exactly entry.version) → packed ≡ asked key (Exactly version) told
  exactly_asked packed version is packed_is =
      let here = exact_is key version tracked r is in
      packed_is ∙ got_is (Exactly entry.version) (Exactly version) (ap (λ (e : Entry). e.key) same ∙ here.0) (ap (λ (e : Entry). Exactly e.version) same ∙ ap Exactly here.1)
