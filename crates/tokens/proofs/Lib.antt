mod DatesLemmas
mod FormLemmas
mod HmacLemmas
mod ObjectLemmas
mod SecretLemmas
