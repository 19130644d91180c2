-- A header is found in a line, or the line is none's.
use Rattle.std.proofs.Common.{◌≡◌, ◌≢◌, ◌⊎◌, inl, inr, ◌<◌, ◌≤◌, ◌^◌, ℕ, List, ◌∷◌, ◌++◌, drop, sym, ◌∙◌, ap, arith}
use Rattle.std.specs.Prelude.{codes}
use Rattle.std.specs.Fmt.{decimal}
use Rattle.std.proofs.lemmas.Fmt.{decimal_injective}
use Rattle.lr_base.specs.Config.{IsValid}
use Rattle.lr_base.specs.Limits.{most_clients, most_replicas}
use Rattle.lr_base.specs.declared.names.Config.{Config}
use Rattle.lr_script.specs.Fields.{IsConfigFields, spaces}
use Rattle.lr_script.specs.Script.{IsSetUp}
use Rattle.lr_script.specs.Texts.{config_text, header_text, service_text}
use Rattle.lr_script.specs.declared.heading.Header.{Header}
use Rattle.lr_script.specs.declared.heading.Name.{Name}
use Rattle.lr_script.proofs.Cuts.{config_one, config_spaces, field_one, service_spaceless}
use Rattle.lr_script.proofs.Finding.{IsCut, IsNumber, cut_or_whole, less_or_not, number_or_none, same_or_other, service_or_none}
use Rattle.lr_script.proofs.Splits.{spaces_behind}

-- the set-up that these fields are
abbrev IsConfig : List ℕ → Type 0
IsConfig fields = (config : Config) × IsSetUp config × (fields ≡ config_text config)

abbrev IsNoConfig : List ℕ → Type 0
IsNoConfig fields = (config : Config) → IsSetUp config → fields ≢ config_text config

-- a set-up that a script may ask for, or not
valid_or_not : (config : Config) → IsValid config ⊎ (IsValid config → ⊥)
valid_or_not config = go (less_or_not 0 config.replicas) (less_or_not most_replicas config.replicas)
    (less_or_not 0 config.clients) (less_or_not most_clients config.clients)
  where
    go : (0 < config.replicas) ⊎ (config.replicas ≤ 0)
        → (most_replicas < config.replicas) ⊎ (config.replicas ≤ most_replicas)
        → (0 < config.clients) ⊎ (config.clients ≤ 0)
        → (most_clients < config.clients) ⊎ (config.clients ≤ most_clients) → IsValid config ⊎ (IsValid config → ⊥)
    go (inl a) (inr b) (inl c) (inr d) =
        inl (record { some_replica = a; most_replicas = b; some_client = c; most_clients = d })
    go (inr a) b c d = inr (λ v. let one = v.some_replica in omega arith)
    go (inl a) (inl b) c d = inr (λ v. let one = v.most_replicas in omega arith)
    go (inl a) (inr b) (inr c) d = inr (λ v. let one = v.some_client in omega arith)
    go (inl a) (inr b) (inl c) (inl d) = inr (λ v. let one = v.most_clients in omega arith)

abbrev config_with : ℕ → ℕ → ℕ → Config
config_with replicas clients delta = record { replicas = replicas; clients = clients; delta = delta }

module _ (fields r c d : List ℕ) (split : IsConfigFields fields r c d) where
  -- three numbers are a set-up's, or no set-up's
  numbers_or_none : IsNumber r → IsNumber c → IsNumber d → IsConfig fields ⊎ IsNoConfig fields
  numbers_or_none replicas clients delta = go (valid_or_not (config_with replicas.0 clients.0 delta.0))
    where
      go : IsValid (config_with replicas.0 clients.0 delta.0) ⊎ (IsValid (config_with replicas.0 clients.0 delta.0) → ⊥)
          → IsConfig fields ⊎ IsNoConfig fields
      go (inl valid) = inl (
        config_with replicas.0 clients.0 delta.0,
        record { valid = valid; number = delta.2 },
        split.text ∙ ap (λ t. t ++ 32 ∷ (c ++ 32 ∷ d)) replicas.1 ∙ ap (λ t. decimal replicas.0 ++ 32 ∷ (t ++ 32 ∷ d)) clients.1
            ∙ ap (λ t. decimal replicas.0 ++ 32 ∷ (decimal clients.0 ++ 32 ∷ t)) delta.1,
      )
      go (inr bad) = inr (λ other set e.
          let one = config_one fields r c d other split set e in
          let first : replicas.0 ≡ other.replicas = decimal_injective replicas.0 other.replicas replicas.2 (omega arith) (sym replicas.1 ∙ one.0) in
          let second : clients.0 ≡ other.clients = decimal_injective clients.0 other.clients clients.2 (omega arith) (sym clients.1 ∙ one.1) in
          let valid = set.valid in
          bad (record {
            some_replica = omega (arith, first, valid.some_replica);
            most_replicas = omega (arith, first, valid.most_replicas);
            some_client = omega (arith, second, valid.some_client);
            most_clients = omega (arith, second, valid.most_clients);
          }))

  -- three fields are a set-up's, or no set-up's
  fields_or_none : IsConfig fields ⊎ IsNoConfig fields
  fields_or_none = go (number_or_none r) (number_or_none c) (number_or_none d)
    where
      go : IsNumber r ⊎ ((n : ℕ) → n < 2 ^ 64 → r ≢ decimal n) → IsNumber c ⊎ ((n : ℕ) → n < 2 ^ 64 → c ≢ decimal n)
          → IsNumber d ⊎ ((n : ℕ) → n < 2 ^ 64 → d ≢ decimal n) → IsConfig fields ⊎ IsNoConfig fields
      go (inl replicas) (inl clients) (inl delta) = numbers_or_none replicas clients delta
      go (inr none) clients delta = inr (λ other set e.
          none other.replicas (omega arith) (config_one fields r c d other split set e).0)
      go (inl replicas) (inr none) delta = inr (λ other set e.
          none other.clients (omega arith) (config_one fields r c d other split set e).1)
      go (inl replicas) (inl clients) (inr none) = inr (λ other set e.
          none other.delta set.number (config_one fields r c d other split set e).2)

config_or_none : (fields : List ℕ) → IsConfig fields ⊎ IsNoConfig fields
config_or_none fields = first (cut_or_whole fields)
  where
    second : (cut : IsCut fields) → IsCut cut.1 ⊎ (spaces cut.1 ≡ 0) → IsConfig fields ⊎ IsNoConfig fields
    second cut (inl more) = fields_or_none fields cut.0 more.0 more.1 (record {
      text = cut.2 ∙ ap (λ t. cut.0 ++ 32 ∷ t) more.2;
      replicas_field = cut.3;
      clients_field = more.3;
    })
    second cut (inr whole) = inr (λ config set e.
        let many = config_spaces fields config set e in
        let one = spaces_behind fields cut.0 cut.1 cut.2 cut.3 in
        omega arith)

    first : IsCut fields ⊎ (spaces fields ≡ 0) → IsConfig fields ⊎ IsNoConfig fields
    first (inl cut) = second cut (cut_or_whole cut.1)
    first (inr whole) = inr (λ config set e. let many = config_spaces fields config set e in omega arith)

-- the header whose line this is
abbrev pub IsHeaderLine : List ℕ → Type 0
IsHeaderLine line = (header : Header) × IsSetUp header.config × (line ≡ header_text header)

abbrev pub IsNoHeaderLine : List ℕ → Type 0
IsNoHeaderLine line = (header : Header) → IsSetUp header.config → line ≢ header_text header

pub header_or_none : (line : List ℕ) → IsHeaderLine line ⊎ IsNoHeaderLine line
header_or_none line = begin (same_or_other line (codes "lazyrep 1 " ++ drop 10 line))
  where
    named : line ≡ codes "lazyrep 1 " ++ drop 10 line → (cut : IsCut (drop 10 line)) → (name : Name)
        → cut.0 ≡ service_text name → IsConfig cut.1 ⊎ IsNoConfig cut.1 → IsHeaderLine line ⊎ IsNoHeaderLine line
    named is cut name e (inl config) = inl (
      record { service = name; config = config.0 },
      config.1,
      is ∙ ap (λ t. codes "lazyrep 1 " ++ t) (cut.2 ∙ ap (λ t. t ++ 32 ∷ cut.1) e
          ∙ ap (λ t. service_text name ++ 32 ∷ t) config.2),
    )
    named is cut name e (inr none) = inr (λ header set same.
        none header.config set (field_one cut.0 (service_text header.service) cut.1 (config_text header.config)
        (sym cut.2 ∙ ap (drop 10) same) cut.3 (service_spaceless header.service)).1)

    service : line ≡ codes "lazyrep 1 " ++ drop 10 line → (cut : IsCut (drop 10 line))
        → ((name : Name) × (cut.0 ≡ service_text name)) ⊎ ((name : Name) → cut.0 ≢ service_text name)
        → IsHeaderLine line ⊎ IsNoHeaderLine line
    service is cut (inl name) = named is cut name.0 name.1 (config_or_none cut.1)
    service is cut (inr none) = inr (λ header set same.
        none header.service (field_one cut.0 (service_text header.service) cut.1 (config_text header.config)
        (sym cut.2 ∙ ap (drop 10) same) cut.3 (service_spaceless header.service)).0)

    behind : line ≡ codes "lazyrep 1 " ++ drop 10 line → IsCut (drop 10 line) ⊎ (spaces (drop 10 line) ≡ 0)
        → IsHeaderLine line ⊎ IsNoHeaderLine line
    behind is (inl cut) = service is cut (service_or_none cut.0)
    behind is (inr whole) = inr (λ header set same.
        let one = spaces_behind (drop 10 line) (service_text header.service) (config_text header.config)
        (ap (drop 10) same) (service_spaceless header.service) in
        omega arith)

    begin : (line ≡ codes "lazyrep 1 " ++ drop 10 line) ⊎ (line ≢ codes "lazyrep 1 " ++ drop 10 line)
        → IsHeaderLine line ⊎ IsNoHeaderLine line
    begin (inl is) = behind is (cut_or_whole (drop 10 line))
    begin (inr other) = inr (λ header set same.
        other (same ∙ ap (λ t. codes "lazyrep 1 " ++ t) (sym (ap (drop 10) same))))
